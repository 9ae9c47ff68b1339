-- 01, 'Sync': what one change does. Assumes nothing.
use Rattle.std.specs.Prelude.{◌≡◌, Bool, true, false, cond, ◌&&◌, ◌||◌, List, [], ◌∷◌, ℕ, ◌+◌, ◌-◌, ◌/◌, ◌^◌, min, ltb, eqb, length, get_or, set, Result, Ok, Err, Option}
use Rattle.answers.specs.Answers.{Answer, given, refused}
use Rattle.answers.specs.Refusals.{number_of}
use Rattle.answers.specs.declared.Refusal.{Refusal}
use Rattle.blocks.specs.Blocks.{put}
use Rattle.ht_file.specs.Places.{tag_pages, bucket_page, if_tags}
use Rattle.meta_map.specs.Tags.{Kind, empty, tombstone, full, kind_of, is_kind, full_tag}
use Rattle.page_diff.specs.Diff.{marked, count_of}
use Rattle.probe.specs.Path.{allocating}
use Rattle.wal.specs.Log.{Entry, clear, record_of, clear_size, update_size}
use Rattle.wal.specs.Run.{WideChange}
use Rattle.wal.specs.Writer.{open_at, position, edition_of, if_open, if_room}
use Rattle.wal.specs.declared.Edition.{Edition}
use Rattle.wal.specs.declared.Writer.{Writer}
use Rattle.wal_write.specs.Calls.{page_update}
use Rattle.sync_parts.specs.Parts.{Named, bucket, none, named_by, tag_fits, cells_at}
use Rattle.sync_parts.specs.declared.Where.{Where}
use Rattle.sync_parts.specs.declared.Where.TheVariants.{Known, Fresh as FreshPage, Cell}
use Rattle.sync.specs.declared.Change.{Change}
use Rattle.sync.specs.declared.Lent.{Lent}
use Rattle.sync.specs.declared.Place.{Place}
use Rattle.sync.specs.declared.SyncState.{SyncState}
use Rattle.sync.specs.declared.Taken.{Taken}

-- what a change is lent and may change
pub record Mem : Type 0 where
  pub tags : List ℕ
  pub marks : List ℕ
  pub cells : List ℕ
  pub log : List ℕ

abbrev pub mem_of : List ℕ → List ℕ → List ℕ → List ℕ → Mem
mem_of t k c l = record { tags = t; marks = k; cells = c; log = l }

-- what stands in what is lent; and that the same is lent still
abbrev pub mem_at : Lent → Mem
mem_at m = mem_of m.tags.now m.marks.now m.cells.now m.log.now

abbrev pub Same : Lent → Lent → Type 0
Same m m' =
    (m'.tags.ghost_name ≡ m.tags.ghost_name) × (m'.marks.ghost_name ≡ m.marks.ghost_name) ×
    (m'.cells.ghost_name ≡ m.cells.ghost_name) × (m'.log.ghost_name ≡ m.log.ghost_name)

-- the widths of a change's parts, which their types give: "id 32, diff 16"
abbrev pub Wide : Change → Type 0
Wide c = WideChange c.id c.diff.words

pub data AllWide : List Change → Type 0 where
  none_wide : AllWide []
  more_wide : {c : Change} {cs : List Change} → Wide c → AllWide cs → AllWide (c ∷ cs)

-- "where (known b, fresh, or cell i)", as two numbers: 0 is known, 1 fresh, any other a cell
abbrev pub where_of : Place → Where
where_of p = cond (eqb p.kind 0) (Known p.at) (cond (eqb p.kind 1) FreshPage (Cell p.at))

-- and back
abbrev pub place_of : Where → Place
place_of (Known b) = record { kind = 0; at = b }
place_of FreshPage = record { kind = 1; at = 0 }
place_of (Cell i) = record { kind = 2; at = i }

-- what a change is to do
pub data Does : Type 0 where
  clears updates : ℕ → Does
  allocates : Does

abbrev pub does_with : Bool → ℕ → Does
does_with true b = clears b
does_with false b = updates b

-- "9, 14": a named bucket inside the table, its tag right; "a clear without a bucket" is 14
abbrev pub by_named : Bool → ℕ → List ℕ → ℕ → Answer Named → Answer Does
by_named clearing n tags h (refused k) = refused k
by_named clearing n tags h (given (bucket b)) =
    cond (ltb b n) (cond (tag_fits h (get_or tags b 0)) (given (does_with clearing b)) (refused 14)) (refused 9)
by_named clearing n tags h (given none) = cond clearing (refused 14) (given allocates)

-- "each change: 4, cell index 2, 9, 14": bit 126 is never allowed, bit 127 makes it a clearing change
unfoldable pub does_of : ℕ → List ℕ → List ℕ → Change → Answer Does
does_of n tags cells c =
    cond (marked c.diff.words 126) (refused 4) (by_named (marked c.diff.words 127) n tags c.hash (named_by (where_of c.place) cells))

-- what an accepted change has done, and to which bucket
pub data Effect : Type 0 where
  cleared updated allocated : ℕ → Effect

abbrev pub bucket_of : Effect → ℕ
bucket_of (cleared b) = b
bucket_of (updated b) = b
bucket_of (allocated b) = b

-- the kind that the bucket's tag had before; and whether a kind is one that the effect takes
abbrev pub kind_before : Effect → List ℕ → Kind
kind_before e tags = kind_of (get_or tags (bucket_of e) 0)

abbrev pub kind_taken : Effect → Kind → Bool
kind_taken (cleared b) k = is_kind full k
kind_taken (updated b) k = is_kind full k
kind_taken (allocated b) k = is_kind empty k || is_kind tombstone k

abbrev pub by_bucket : Answer ℕ → Answer Effect
by_bucket (given b) = given (allocated b)
by_bucket (refused k) = refused k

-- "13, 10 or 11": the room is tested before the bucket is sought
abbrev pub after_does : SyncState → Mem → Change → Answer Does → Answer Effect
after_does st m c (refused k) = refused k
after_does st m c (given (clears b)) = if_room m.log st.writer (clear_size (edition_of st.writer)) (given (cleared b))
after_does st m c (given (updates b)) = if_room m.log st.writer (update_size (edition_of st.writer) (count_of c.diff.words)) (given (updated b))
after_does st m c (given allocates) =
    if_room m.log st.writer (update_size (edition_of st.writer) (count_of c.diff.words)) (by_bucket (allocating st.limit m.tags st.n c.hash))

-- the single step's own refusals first: 1 for the tags, 2 for the page and the marks, 12 for the writer
unfoldable pub effect_of : SyncState → Mem → List ℕ → Change → Answer Effect
unfolding does_of
effect_of st m page c =
    if_tags m.tags st.n
    (cond (eqb (length page) 4096 && eqb (length m.marks) (tag_pages st.n))
    (if_open st.writer (after_does st m c (does_of st.n m.tags m.cells c)))
    (refused 2))

-- "a clear is logged"; "An update is logged, with the record's id and the elided bytes that stand in its page"
abbrev pub update_by : Change → List ℕ → ℕ → Entry
update_by c page b = page_update c.id c.diff.words page b

abbrev pub entry_by : Change → List ℕ → Effect → Entry
entry_by c page (cleared b) = clear b
entry_by c page (updated b) = update_by c page b
entry_by c page (allocated b) = update_by c page b

abbrev pub size_by : Edition → Change → Effect → ℕ
size_by ed c (cleared b) = clear_size ed
size_by ed c (updated b) = update_size ed (count_of c.diff.words)
size_by ed c (allocated b) = update_size ed (count_of c.diff.words)

-- "Tag becomes a tombstone"; allocation "writes the full tag"
abbrev pub tags_by : Effect → ℕ → List ℕ → List ℕ
tags_by (cleared b) h tags = set tags b 0x7F
tags_by (updated b) h tags = tags
tags_by (allocated b) h tags = set tags b (full_tag h)

-- "A tag written sets its page's mark to 1"
abbrev pub marks_by : Effect → List ℕ → List ℕ
marks_by (cleared b) marks = set marks (b / 4096) 1
marks_by (updated b) marks = marks
marks_by (allocated b) marks = set marks (b / 4096) 1

abbrev pub cells_by : Effect → Where → List ℕ → List ℕ
cells_by (cleared b) w cells = cells
cells_by (updated b) w cells = cells
cells_by (allocated b) w cells = cells_at w b cells

-- "occupied falls by one", "occupied rises by one"; a false number that was lent stays within its type
abbrev pub occupied_by : Effect → ℕ → ℕ
occupied_by (cleared b) o = o - 1
occupied_by (updated b) o = o
occupied_by (allocated b) o = min (o + 1) (2 ^ 64 - 1)

-- what an accepted change leaves; a refused one leaves all
abbrev pub tags_if : Answer Effect → ℕ → List ℕ → List ℕ
tags_if (refused k) h tags = tags
tags_if (given e) h tags = tags_by e h tags

abbrev pub marks_if : Answer Effect → List ℕ → List ℕ
marks_if (refused k) marks = marks
marks_if (given e) marks = marks_by e marks

abbrev pub cells_if : Answer Effect → Where → List ℕ → List ℕ
cells_if (refused k) w cells = cells
cells_if (given e) w cells = cells_by e w cells

abbrev pub log_if : Answer Effect → Writer → Change → List ℕ → List ℕ → List ℕ
log_if (refused k) w c page log = log
log_if (given e) w c page log = put log (position w) (record_of (edition_of w) (entry_by c page e))

abbrev pub mem_by : Answer Effect → SyncState → Mem → List ℕ → Change → Mem
mem_by a st m page c =
    mem_of (tags_if a c.hash m.tags) (marks_if a m.marks) (cells_if a (where_of c.place) m.cells) (log_if a st.writer c page m.log)

abbrev pub state_of : ℕ → Option ℕ → Writer → ℕ → SyncState
state_of n limit w o = record { n = n; limit = limit; writer = w; occupied = o }

abbrev pub state_by : Answer Effect → SyncState → Change → SyncState
state_by (refused k) st c = st
state_by (given e) st c = state_of st.n st.limit (open_at (edition_of st.writer) (position st.writer + size_by (edition_of st.writer) c e)) (occupied_by e st.occupied)

-- "Each step answers bucket and page number M+b"
abbrev pub page_number : SyncState → Answer Effect → Answer (ℕ × ℕ)
page_number st (refused k) = refused k
page_number st (given e) = given (bucket_of e, bucket_page st.n (bucket_of e))

abbrev pub taken_said : Result Taken Refusal → Answer (ℕ × ℕ)
taken_said (Ok t) = given (t.bucket, t.page)
taken_said (Err r) = refused (number_of r)

-- what a step promises: its answer, the state and the memory after it; and the widths of the change it was given
pub record StepPromise (st : SyncState) (m : Mem) (page : List ℕ) (c : Change) (r : Result Taken Refusal) (st' : SyncState) (after : Mem) : Type 0 where
  pub taken : taken_said r ≡ page_number st (effect_of st m page c)
  pub state : st' ≡ state_by (effect_of st m page c) st c
  pub memory : after ≡ mem_by (effect_of st m page c) st m page c
  pub wide : Wide c
