-- 01, 'Replay' and its order, and 02, W-207 and W-208: what replay answers, by what it wants after end, and the image it leaves. Assumes nothing.
use Rattle.std.specs.Prelude.{◌≡◌, ◌⊎◌, Bool, true, false, cond, ◌&&◌, List, [], ◌∷◌, ◌++◌, ℕ, ◌+◌, ◌<◌, ltb, eqb, length, get_or, take, Result, Ok, Err}
use Rattle.answers.specs.Answers.{Answer, given, refused, accepted}
use Rattle.answers.specs.Refusals.{number_of}
use Rattle.answers.specs.declared.Refusal.{Refusal}
use Rattle.blocks.specs.Blocks.{same_bytes}
use Rattle.ht_file.specs.Places.{image_fits, if_table}
use Rattle.wal.specs.Log.{Entry, clear, update}
use Rattle.wal.specs.Reader.{edition_at, start_of, seed_of, Next, next, ended, stopped, next_by, Reading, read_log}
use Rattle.wal.specs.declared.AfterEnd.{AfterEnd}
use Rattle.wal.specs.declared.AfterEnd.TheVariants.{Tolerant}
use Rattle.wal.specs.declared.Edition.{Edition}
use Rattle.wal.specs.declared.Edition.TheVariants.{One, Two}
use Rattle.wal.specs.declared.Start.{Start}
use Rattle.recover.specs.Places.{Step, with_hashes, replayed, stepped, names, gives, named_in}
use Rattle.recover.specs.declared.Expected.{Expected}
use Rattle.recover.specs.declared.Stepped.{Stepped}
use Rattle.recover.specs.declared.Recovered.{Recovered}
use Rattle.recover.specs.declared.Stepped.TheVariants as S
use Rattle.recover.specs.declared.Recovered.TheVariants as R

-- what replay does where it does not refuse
pub data Did : Type 0 where
  nothing stale applied : Did

abbrev pub bucket_of : Entry → ℕ
bucket_of (clear b) = b
bucket_of (update id ws ns el b) = b

-- refusal 9: "bucket at or above n"
unfoldable pub all_inside : ℕ → List Entry → Bool
all_inside n [] = true
all_inside n (e ∷ es) = ltb (bucket_of e) n && all_inside n es

abbrev pub one_update : Entry → ℕ
one_update (clear b) = 0
one_update (update id ws ns el b) = 1

unfoldable pub updates_in : List Entry → ℕ
updates_in [] = 0
updates_in (e ∷ es) = one_update e + updates_in es

-- "the first bad entry (in an update: 6 up to the diff, 4, 6, 9), last the hash count 2"; "27 [..] after the entries and before the hash count": the
-- reading stops with it
abbrev pub after_entries : Answer (Unit {0}) → Answer (Unit {0}) → Answer (Unit {0})
after_entries (given u) last = last
after_entries (refused n) last = refused n

abbrev pub hashes_fit : ℕ → ℕ → Answer (Unit {0})
hashes_fit hashes updates = cond (eqb hashes updates) (given tt) (refused 2)

-- what a whole log that reads so comes to, for a table of n buckets, with so many hashes
abbrev pub check_of : ℕ → ℕ → Reading → Answer (Unit {0})
check_of n hashes r = cond (all_inside n r.entries) (after_entries r.stop (hashes_fit hashes (updates_in r.entries))) (refused 9)

unfoldable pub check_answer : AfterEnd → ℕ → List ℕ → ℕ → Answer (Unit {0})
check_answer rule n log hashes = check_of n hashes (read_log rule log)

-- "Replay is lent the table's seed and refuses another store's log": a log of edition one names no store
abbrev pub store_in : Edition → List ℕ → List ℕ → Bool
store_in One log seed = true
store_in Two log seed = same_bytes (seed_of log) seed

abbrev pub of_store : List ℕ → List ℕ → Bool
of_store log seed = store_in (edition_at log) log seed

-- "another sync number answers stale, later entries unread"
abbrev pub by_sync : Bool → Answer (Unit {0}) → Answer Did
by_sync same (given u) = cond same (given applied) (given stale)
by_sync same (refused n) = cond same (refused n) (given stale)

-- after the start of a log: "26, log of another store, after 7 and before stale"
abbrev pub after_start : Answer ℕ → List ℕ → Expected → Answer (Unit {0}) → Answer Did
after_start (refused n) log want check = refused n
after_start (given s) log want check = cond (of_store log want.seed) (by_sync (eqb s want.sync) check) (refused 26)

-- "Replay: 1, nothing, 5, 7, stale, then the first bad entry .., last the hash count 2": of the lengths of the image and of the hashes
unfoldable pub replay_tests : AfterEnd → ℕ → ℕ → List ℕ → Expected → ℕ → Answer Did
replay_tests rule n image log want hashes =
    if_table (image_fits n image) (cond (eqb (length log) 0) (given nothing) (after_start (start_of log) log want (check_answer rule n log hashes)))

abbrev pub replay_answer : AfterEnd → ℕ → List ℕ → List ℕ → Expected → List ℕ → Answer Did
replay_answer rule n image log want hashes = replay_tests rule n (length image) log want (length hashes)

-- the entries of a log with their hashes; what follows end changes none of them
abbrev pub steps_of : List ℕ → List ℕ → List Step
steps_of log hashes = with_hashes (read_log Tolerant log).entries hashes

-- only `applied` changes the image
abbrev pub image_by : Answer Did → List ℕ → List ℕ → List ℕ
image_by (given nothing) image after = image
image_by (given stale) image after = image
image_by (given applied) image after = after
image_by (refused n) image after = image

abbrev pub replay_image : AfterEnd → ℕ → List ℕ → List ℕ → Expected → List ℕ → List ℕ
replay_image rule n image log want hashes = image_by (replay_answer rule n image log want hashes) image (replayed n (steps_of log hashes) image)

-- ---- one entry: "each entry is applied by one step"
pub data Went : Type 0 where
  cleared updated : ℕ → Went
  at_end : Went

abbrev pub went_to : Entry → ℕ → Went
went_to (clear b) p = cleared p
went_to (update id ws ns el b) p = updated p

abbrev pub by_next : ℕ → Next → Answer Went
by_next n (next e p) = cond (ltb (bucket_of e) n) (given (went_to e p)) (refused 9)
by_next n ended = given at_end
by_next n (stopped k) = refused k

-- the step at a position: 1, then as in replay; 27 in place of end
unfoldable pub step_answer : AfterEnd → ℕ → List ℕ → Edition → List ℕ → ℕ → Answer Went
step_answer rule n image ed log at = if_table (image_fits n (length image)) (by_next n (next_by rule ed log at))

abbrev pub step_by : ℕ → Next → ℕ → List ℕ → List ℕ
step_by n (next e p) h image = stepped n (record { entry = e; hash = h }) image
step_by n ended h image = image
step_by n (stopped k) h image = image

-- the image after it: a refusal leaves it
unfoldable pub step_image : AfterEnd → ℕ → List ℕ → Edition → List ℕ → ℕ → ℕ → List ℕ
step_image rule n image ed log at h = cond (accepted (step_answer rule n image ed log at)) (step_by n (next_by rule ed log at) h image) image

-- what each case of the code's answers says
abbrev pub stepped_said : Result Stepped Refusal → Answer Went
stepped_said (Ok (S.Cleared p)) = given (cleared p)
stepped_said (Ok (S.Updated p)) = given (updated p)
stepped_said (Ok S.End) = given at_end
stepped_said (Err r) = refused (number_of r)

abbrev pub recovered_said : Result Recovered Refusal → Answer Did
recovered_said (Ok R.Nothing) = given nothing
recovered_said (Ok R.Stale) = given stale
recovered_said (Ok R.Applied) = given applied
recovered_said (Err r) = refused (number_of r)

-- "accepted under its own sync number", and for edition two "with equal seeds as a premise": what replay expects of the log of a start
pub record Own (start : Start) (want : Expected) : Type 0 where
  pub same_sync : want.sync ≡ start.sync
  pub same_store : start.edition ≡ Two → want.seed ≡ start.seed

-- demand 3: "an image that differs from that table only in places the log names"
pub record OnlyNamed (n : ℕ) (ss : List Step) (table image : List ℕ) : Type 0 where
  pub long : length image ≡ length table
  pub others : (j : ℕ) → j < length table → named_in n ss j ≡ false → get_or image j 0 ≡ get_or table j 0

-- "the last value that the log gives it": an entry names place j, no later one does, and v is what it gives
pub record LastGiven (n : ℕ) (ss : List Step) (j v : ℕ) : Type 0 where
  pub before : List Step
  pub giver : Step
  pub after : List Step
  pub split : ss ≡ before ++ (giver ∷ after)
  pub named : names n giver j ≡ true
  pub last : named_in n after j ≡ false
  pub value : v ≡ gives n giver j

-- a bytewise mix of two images
pub record Mix (a b image : List ℕ) : Type 0 where
  pub long : length image ≡ length a
  pub each : (j : ℕ) → j < length a → (get_or image j 0 ≡ get_or a j 0) ⊎ (get_or image j 0 ≡ get_or b j 0)

-- the images that stops can leave: the table; what any number of applied entries make of such an image; any mix of two
pub data Stopped (n : ℕ) (ss : List Step) (table : List ℕ) : List ℕ → Type 0 where
  untouched : Stopped n ss table table
  part_applied : (image : List ℕ) (k : ℕ) → Stopped n ss table image → Stopped n ss table (replayed n (take k ss) image)
  mixed : (a b image : List ℕ) → Stopped n ss table a → Stopped n ss table b → Mix a b image → Stopped n ss table image
