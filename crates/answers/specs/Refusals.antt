-- 01, 'Refusal numbers', and those of 02: the number of each refusal. Assumes nothing.
use Rattle.std.specs.Prelude.{ℕ}
use Rattle.answers.specs.declared.Refusal.{Refusal}
use Rattle.answers.specs.declared.Refusal.TheVariants.{TableUnfit, LengthUnfit, SlotUnfit, DiffReserved, LogNotPages, LogCut, NoStart, TagUnknown, BucketOutside, PathCrowded, PathClosed, WriterNotOpen, NoRoom, BucketUnfit, MarkerLength, MarkerMagic, MarkerOrder, NothingPending, WouldShrink, PaddingUsed, LabelTwice, TagWrong, EmptyFirst, NotReached, OtherStore, AfterEndUsed}

abbrev pub number_of : Refusal → ℕ
-- bucket count 0 or above 1,048,576, or table length wrong
number_of TableUnfit = 1
-- another lent slice has the wrong length, a node count is not the diff's, or a cell index is too large
number_of LengthUnfit = 2
-- slot above 125 to set, above 127 to ask
number_of SlotUnfit = 3
-- a diff has bit 126, or has bit 127 other than in a clearing change
number_of DiffReserved = 4
-- log length no multiple of 4,096
number_of LogNotPages = 5
-- log ends inside a record or before end
number_of LogCut = 6
-- first byte not 1
number_of NoStart = 7
-- later tag unknown
number_of TagUnknown = 8
-- bucket at or above n
number_of BucketOutside = 9
-- no bucket: the path has a hit
number_of PathCrowded = 10
-- no bucket: the path has no hit
number_of PathClosed = 11
-- writer not open
number_of WriterNotOpen = 12
-- no room
number_of NoRoom = 13
-- tag rule of Sync broken, or a clear without a bucket
number_of BucketUnfit = 14
-- marker length not 16
number_of MarkerLength = 15
-- marker magic
number_of MarkerMagic = 16
-- marker: new at most old
number_of MarkerOrder = 17
-- no pending case applies
number_of NothingPending = 18
-- new count below old
number_of WouldShrink = 19
-- padding not all zero
number_of PaddingUsed = 20
-- label twice
number_of LabelTwice = 21
-- wrong tag
number_of TagWrong = 22
-- empty met first
number_of EmptyFirst = 23
-- not reached
number_of NotReached = 24
-- log of another store (02, W-207)
number_of OtherStore = 26
-- a byte after end not zero (02, W-208)
number_of AfterEndUsed = 27
