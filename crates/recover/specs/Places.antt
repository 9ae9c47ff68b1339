-- 01, 'Replay': the places that an entry names, the value that it gives each, and the value at a place after a list of entries.
-- Assumes nothing.
use Rattle.std.specs.Prelude.{Bool, false, cond, ◌&&◌, ◌||◌, List, [], ◌∷◌, ℕ, ◌+◌, ◌-◌, ◌/◌, ◌%◌, leb, ltb, eqb, length, get_or, drop}
use Rattle.blocks.specs.Blocks.{tabulate}
use Rattle.ht_file.specs.Places.{page_start}
use Rattle.meta_map.specs.Tags.{full_tag}
use Rattle.page_diff.specs.Diff.{marked}
use Rattle.page_diff.specs.Pack.{rank}
use Rattle.wal.specs.Log.{Entry, clear, update}

-- an entry with the hash that is lent for it (a clear has none)
pub record Step : Type 0 where
  pub entry : Entry
  pub hash : ℕ

-- "One hash is lent per update, in order"
unfoldable pub with_hashes : List Entry → List ℕ → List Step
with_hashes [] hs = []
with_hashes (clear b ∷ es) hs = record { entry = clear b; hash = 0 } ∷ with_hashes es hs
with_hashes (update id ws ns el b ∷ es) hs = record { entry = update id ws ns el b; hash = get_or hs 0 0 } ∷ with_hashes es (drop 1 hs)

-- where in bucket b's page place j lies, and whether it lies there at all
abbrev pub in_page : ℕ → ℕ → ℕ → Bool
in_page n b j = leb (page_start n b) j && ltb j (page_start n b + 4096)

-- "marked slots and last 40 bytes": byte o of the page of an update with the diff ws
abbrev pub page_named : List ℕ → ℕ → Bool
page_named ws o = marked ws (o / 32) || leb 4056 o

-- "Named places: the tag of each bucket in the log; for updates, also marked slots and last 40 bytes"
unfoldable pub entry_names : ℕ → Entry → ℕ → Bool
entry_names n (clear b) j = eqb j b
entry_names n (update id ws ns el b) j = eqb j b || (in_page n b j && page_named ws (j - page_start n b))

abbrev pub names : ℕ → Step → ℕ → Bool
names n s j = entry_names n s.entry j

-- the value of byte o of the page: the page id in the last 32 bytes, the elided children before them, else the slot's node
abbrev pub page_gives : List ℕ → List ℕ → List (List ℕ) → List ℕ → ℕ → ℕ
page_gives id ws ns el o =
    cond (leb 4064 o) (get_or id (o - 4064) 0) (cond (leb 4056 o) (get_or el (o - 4056) 0) (get_or (get_or ns (rank ws (o / 32)) []) (o % 32) 0))

-- "Update: full tag, marked slots, last 40 bytes. Clear: tombstone": the value that an entry gives a place that it names
unfoldable pub entry_gives : ℕ → Entry → ℕ → ℕ → ℕ
entry_gives n (clear b) h j = 0x7F
entry_gives n (update id ws ns el b) h j = cond (eqb j b) (full_tag h) (page_gives id ws ns el (j - page_start n b))

abbrev pub gives : ℕ → Step → ℕ → ℕ
gives n s j = entry_gives n s.entry s.hash j

-- a place that one of the entries names
unfoldable pub named_in : ℕ → List Step → ℕ → Bool
named_in n [] j = false
named_in n (s ∷ ss) j = names n s j || named_in n ss j

-- "each named place has the last value that the log gives it, each other byte is the table's" (`was`)
unfoldable pub value_at : ℕ → List Step → ℕ → ℕ → ℕ
unfolding named_in
value_at n [] was j = was
value_at n (s ∷ ss) was j = cond (named_in n ss j) (value_at n ss was j) (cond (names n s j) (gives n s j) was)

-- the image after replay of the entries
unfoldable pub replayed : ℕ → List Step → List ℕ → List ℕ
unfolding value_at
replayed n ss image = tabulate (λ j. value_at n ss (get_or image j 0) j) (length image)

-- the image after one entry: "keeps every byte but those its entry names"
abbrev pub stepped : ℕ → Step → List ℕ → List ℕ
stepped n s image = tabulate (λ j. cond (names n s j) (gives n s j) (get_or image j 0)) (length image)

-- the page of an update after it: its marked slots and last 40 bytes; the rest stays
abbrev pub page_after : List ℕ → List ℕ → List (List ℕ) → List ℕ → List ℕ → List ℕ
page_after id ws ns el page = tabulate (λ o. cond (page_named ws o) (page_gives id ws ns el o) (get_or page o 0)) 4096
