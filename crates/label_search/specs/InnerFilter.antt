-- The filters of the search for a label: which numbers a label puts into one. None of this is in what the search answers. Assumes nothing.
use Rattle.std.specs.Prelude.{◌≡◌, Bool, true, false, ◌&&◌, List, ℕ, ◌-◌, ◌*◌, ◌/◌, ◌%◌, ◌≤◌, ◌<◌, eqb, length, get_or}
use Rattle.std.specs.Int.Bits.{bit_xor}
use Rattle.blocks.specs.Blocks.{le, block}
use Rattle.bucket_set.specs.Numbers.{holds_in, with_number}
use Rattle.meta_map.specs.Tags.{is_full}
use Rattle.probe.specs.Path.{page_end}
use Rattle.label_search.specs.Labels.{doubled}

-- the two halves of a word, each times a number
unfoldable pub spread : ℕ → ℕ → ℕ → ℕ
spread w a b = bit_xor (w % 4294967296 * a) (w / 4294967296 * b)

unfoldable pub folded : ℕ → ℕ
folded x = bit_xor x (x / 4294967296)

-- the key of a label: its four words mixed
unfoldable pub mixed : ℕ → ℕ → ℕ → ℕ → ℕ
unfolding spread folded
mixed w0 w1 w2 w3 =
    folded (spread (folded (bit_xor (bit_xor (spread w0 0x9E3779B1 0x85EBCA77) (spread w1 0xCC9E2D51 0x1B873593)) (bit_xor (spread w2 0xE6546B65 0x7FEB352D) (spread w3 0x846CA68B 0xD35A2D97))))
    0xC2B2AE3D 0x27D4EB2F)

unfoldable pub key_of : List ℕ → ℕ
unfolding mixed block
key_of l = mixed (le (block 8 l 0)) (le (block 8 l 8)) (le (block 8 l 16)) (le (block 8 l 24))

abbrev pub key_at : List ℕ → ℕ → ℕ → ℕ
key_at img n b = key_of (page_end img n b)

-- the three cells of a key, and its class
abbrev pub cell_a : ℕ → ℕ
cell_a key = key % 1048576

abbrev pub cell_b : ℕ → ℕ
cell_b key = key / 1048576 % 1048576

abbrev pub cell_c : ℕ → ℕ
cell_c key = key / 1099511627776 % 1048576

abbrev pub class_of : ℕ → ℕ → ℕ
class_of key classes = key / 1152921504606846976 % classes

-- a filter is a set of 16,384 words; a key puts its three cells into it
unfoldable pub with_key : List ℕ → ℕ → List ℕ
unfolding with_number
with_key f key = with_number (with_number (with_number f (cell_a key)) (cell_b key)) (cell_c key)

unfoldable pub has_key : List ℕ → ℕ → Bool
has_key f key = holds_in f (cell_a key) && holds_in f (cell_b key) && holds_in f (cell_c key)

-- a bucket with this tag and key is full, and its label of a class
abbrev pub of_class : ℕ → ℕ → ℕ → ℕ → Bool
of_class classes class tag key = is_full tag && eqb (class_of key classes) class

abbrev pub bucket_of_class : List ℕ → ℕ → ℕ → ℕ → ℕ → Bool
bucket_of_class img n classes class b = of_class classes class (get_or img b 0) (key_at img n b)

-- the keys of the buckets from `from` to `to`, which are at most 16
abbrev pub KeysOf : List ℕ → ℕ → ℕ → ℕ → List ℕ → Type 0
KeysOf img n from to keys = (length keys ≡ 16) × ((b : ℕ) → from ≤ b → b < to → is_full (get_or img b 0) ≡ true → get_or keys (b - from) 0 ≡ key_at img n b)

-- what filters keep of the keys in them
abbrev pub Keeps : List ℕ → List ℕ → Type 0
Keeps f g = (length g ≡ 16384) × ((key : ℕ) → has_key f key ≡ true → has_key g key ≡ true)

-- a bucket in the first pass: its key is then seen; where it was before, it is a suspect (`r`)
pub record Noted (classes class tag key : ℕ) (seen suspects seen' suspects' : List ℕ) (r : Bool) : Type 0 where
  pub seen_keeps : Keeps seen seen'
  pub suspects_keeps : Keeps suspects suspects'
  pub is_seen : of_class classes class tag key ≡ true → has_key seen' key ≡ true
  pub suspected : of_class classes class tag key ≡ true → has_key seen key ≡ true → (has_key suspects' key ≡ true) × (r ≡ true)

-- the first pass over the buckets before `end` of a class: all that are doubled have their keys among the suspects
abbrev pub Suspected : List ℕ → ℕ → ℕ → ℕ → ℕ → List ℕ → Bool → Type 0
Suspected img n end classes class suspects any =
    (b : ℕ) → b < end → class_of (key_at img n b) classes ≡ class → doubled img n b ≡ true → (has_key suspects (key_at img n b) ≡ true) × (any ≡ true)

-- how far the first pass is at bucket b
pub record Marking (img : List ℕ) (n classes class b : ℕ) (seen suspects : List ℕ) (any : Bool) : Type 0 where
  pub seen_long : length seen ≡ 16384
  pub suspects_long : length suspects ≡ 16384
  pub in_seen : (j : ℕ) → j < b → bucket_of_class img n classes class j ≡ true → has_key seen (key_at img n j) ≡ true
  pub in_suspects : Suspected img n b classes class suspects any

-- a bucket in the second pass: a suspect's key is then seen; where it was before, its label is to be searched for (`r`)
pub record Sought (classes class tag key : ℕ) (suspects seen seen' : List ℕ) (r : Bool) : Type 0 where
  pub seen_keeps : Keeps seen seen'
  pub is_seen : of_class classes class tag key ≡ true → has_key suspects key ≡ true → has_key seen' key ≡ true
  pub passed : r ≡ false → of_class classes class tag key ≡ true → has_key suspects key ≡ true → has_key seen key ≡ false

-- no bucket before b of a class is doubled
abbrev pub NoneOfClass : List ℕ → ℕ → ℕ → ℕ → ℕ → Type 0
NoneOfClass img n classes class b = (j : ℕ) → j < b → class_of (key_at img n j) classes ≡ class → doubled img n j ≡ false

-- how far the second pass is at bucket b
pub record Seeking (img : List ℕ) (n classes class : ℕ) (suspects : List ℕ) (b : ℕ) (seen : List ℕ) : Type 0 where
  pub long : length seen ≡ 16384
  pub in_seen : (j : ℕ) → j < b → bucket_of_class img n classes class j ≡ true → has_key suspects (key_at img n j) ≡ true → has_key seen (key_at img n j) ≡ true
  pub none : NoneOfClass img n classes class b

-- the second pass over some buckets up to `to`: a doubled one, or none
pub record SoughtTo (img : List ℕ) (n classes class : ℕ) (suspects : List ℕ) (to : ℕ) (seen : List ℕ) (r : ℕ) : Type 0 where
  pub long : length seen ≡ 16384
  pub within : r ≤ to
  pub none : NoneOfClass img n classes class r
  pub there : r < to → doubled img n r ≡ true
  pub on : to ≤ r → Seeking img n classes class suspects to seen

-- the first doubled bucket of a class before `end`, or `end`
pub record FirstOfClass (img : List ℕ) (n end classes class r : ℕ) : Type 0 where
  pub within : r ≤ end
  pub none : NoneOfClass img n classes class r
  pub there : r < end → doubled img n r ≡ true
