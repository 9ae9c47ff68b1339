-- The numbers that cross the boundary, part by part; `bitbox/Words` has the structs that they stand in. Where there is no value it is 0. Assumes
-- nothing.
use Rattle.std.specs.Prelude.{cond, ℕ, eqb, pos, Float}
use Rattle.std.specs.Float.{binary64}
use Rattle.std.specs.Float.Ieee as Ieee
use Rattle.answers.specs.Answers.{Answer, given, refused}
use Rattle.validate.specs.declared.Audit.{Audit}
use Rattle.wal.specs.declared.Edition.{Edition}
use Rattle.wal.specs.declared.Edition.TheVariants.{One, Two}
use Rattle.wal.specs.declared.Writer.{Writer}
use Rattle.wal.specs.declared.Writer.TheVariants.{Fresh, Open, Finished}

-- "A refusal answers its number"
abbrev pub refusal_of : {A : Type 0} → Answer A → ℕ
refusal_of (given a) = 0
refusal_of (refused k) = k

-- an edition: 2 is the second, any other number the first
abbrev pub edition_of : ℕ → Edition
edition_of k = cond (eqb k 2) Two One

abbrev pub edition_number : Edition → ℕ
edition_number One = 1
edition_number Two = 2

-- a writer: 0 fresh, 1 open at a position of a log of edition one, 3 of edition two, any other finished with a length
abbrev pub open_kind : Edition → ℕ
open_kind One = 1
open_kind Two = 3

abbrev pub writer_from : ℕ → ℕ → Writer
writer_from kind at = cond (eqb kind 0) Fresh (cond (eqb kind 1) (Open at One) (cond (eqb kind 3) (Open at Two) (Finished at)))

abbrev pub writer_kind : Writer → ℕ
writer_kind Fresh = 0
writer_kind (Open p ed) = open_kind ed
writer_kind (Finished len) = 2

abbrev pub writer_at : Writer → ℕ
writer_at Fresh = 0
writer_at (Open p ed) = p
writer_at (Finished len) = len

-- an audit: buckets, full ones and their rate; 0.0 where it is refused
abbrev pub no_rate : Float
no_rate = Ieee.of_int binary64 (pos 0)

abbrev pub audit_values : Answer Audit → Audit
audit_values (given a) = a
audit_values (refused k) = record { capacity = 0; occupied = 0; rate = no_rate }
