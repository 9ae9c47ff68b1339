-- 01, 'Log', and 02, W-207: the records of a log and their bytes, by its edition. 01's are those of edition one. Assumes nothing.
use Rattle.std.specs.Prelude.{List, [], ◌∷◌, ◌++◌, ℕ, ◌+◌, ◌-◌, ◌*◌, ◌/◌, replicate}
use Rattle.blocks.specs.Blocks.{bytes_of, flat}
use Rattle.page_diff.specs.Diff.{bytes_of_words}
use Rattle.wal.specs.declared.Edition.{Edition}
use Rattle.wal.specs.declared.Edition.TheVariants.{One, Two}
use Rattle.wal.specs.declared.Start.{Start}

-- an entry: a clear of a bucket; or an update with its id, the words of its diff, the marked nodes, the elided children and the bucket
pub data Entry : Type 0 where
  clear : ℕ → Entry
  update : List ℕ → List ℕ → List (List ℕ) → List ℕ → ℕ → Entry

-- what stands before each record and tells its kind: its tag; in edition two "a two-byte mark [..]: 0xB2 and then the tag of edition one"
abbrev pub mark : Edition → ℕ → List ℕ
mark One tag = tag ∷ []
mark Two tag = 0xB2 ∷ tag ∷ []

abbrev pub mark_size : Edition → ℕ
mark_size One = 1
mark_size Two = 2

-- "After the start mark come the sync number and the store's 16 seed bytes": the seed in edition two, nothing in edition one
abbrev pub seed_part : Edition → List ℕ → List ℕ
seed_part One seed = []
seed_part Two seed = seed

abbrev pub seed_size : Edition → ℕ
seed_size One = 0
seed_size Two = 16

-- "start = 1, sync number u32"
abbrev pub start_record : Start → List ℕ
start_record s = mark s.edition 1 ++ (bytes_of 4 s.sync ++ seed_part s.edition s.seed)

abbrev pub start_size : Edition → ℕ
start_size ed = mark_size ed + (4 + seed_size ed)

-- a start of either edition; one has no seed, and zeros stand for it
abbrev pub edition_one : ℕ → Start
edition_one sync = record { sync = sync; edition = One; seed = replicate 16 0 }

abbrev pub edition_two : ℕ → List ℕ → Start
edition_two sync seed = record { sync = sync; edition = Two; seed = seed }

-- "clear = 3, bucket u64; update = 4, id 32, diff 16, the marked nodes, elided 8, bucket u64"
unfoldable pub record_of : Edition → Entry → List ℕ
record_of ed (clear b) = mark ed 3 ++ bytes_of 8 b
record_of ed (update id ws ns elided b) = mark ed 4 ++ (id ++ (bytes_of_words ws ++ (flat ns ++ (elided ++ bytes_of 8 b))))

-- the bytes after the mark, and the whole record: "(65 + 32c bytes)" for c nodes; 66 + 32c in edition two
abbrev pub clear_body : ℕ
clear_body = 8

abbrev pub update_body : ℕ → ℕ
update_body c = 64 + 32 * c

abbrev pub clear_size : Edition → ℕ
clear_size ed = mark_size ed + clear_body

abbrev pub update_size : Edition → ℕ → ℕ
update_size ed c = mark_size ed + update_body c

-- the records of entries, one after the other
unfoldable pub records_of : Edition → List Entry → List ℕ
records_of ed [] = []
records_of ed (e ∷ es) = record_of ed e ++ records_of ed es

-- "a multiple of 4,096": the smallest that is at least x
abbrev pub round_up : ℕ → ℕ
round_up x = (x + 4095) / 4096 * 4096

-- "end = 2, then zeros to a multiple of 4,096": the length of a log whose end stands at pos, and its end
abbrev pub finished_length : Edition → ℕ → ℕ
finished_length ed pos = round_up (pos + mark_size ed)

abbrev pub end_record : Edition → ℕ → List ℕ
end_record ed pos = mark ed 2 ++ replicate (finished_length ed pos - (pos + mark_size ed)) 0
