-- 01, 'Diff': what each call on a diff, pack and unpack answer, each refusal with its number, in
-- literals. Assumes nothing.
use mathlib.Core.Path.{◌≡◌, refl}
use mathlib.Core.Bool.{true, false}
use mathlib.Core.List.{List, [], ◌∷◌, ◌++◌, map}
use Prim.Native.Nat.{ℕ, ◌+◌, ◌-◌, ◌^◌, ◌<◌}
use native.Mathlib.Omega.{arith}
use lib.ListN.{get_or, replicate}
use Rattle.answers.specs.Answers.{given, refused}
use Rattle.blocks.specs.Blocks.{block, flat}
use Rattle.blocks.proofs.Laws.{tabulate-get_or}
use Rattle.page_diff.specs.Diff.{marked, word_of, of_marks, slots_below, slots, count_of, reserved, set_answer, set_words, ask_answer, cleared_words, joined, first_slot, without_first, words_of, bytes_of_words, read_answer, read_words}
use Rattle.page_diff.specs.Pack.{table_of, packed_by, pack_answer, packed_of, pack_into_answer, packed_into, unpack_answer, unpacked_byte, unpacked_page}

-- sixteen bytes, the last of which is b
abbrev last_byte : ℕ → List ℕ
last_byte b = replicate 15 0 ++ (b ∷ [])

-- "Reading refuses bit 126 or 127": what it answers, and the words that are then read
pub reads : (map read_answer (last_byte 0x3F ∷ last_byte 0x60 ∷ last_byte 0xA0 ∷ []) ≡ given tt ∷ refused 4 ∷ refused 4 ∷ [])
    × (map read_words (last_byte 0x3F ∷ last_byte 0x60 ∷ last_byte 0xA0 ∷ []) ≡ (0 ∷ 0x3F00000000000000 ∷ []) ∷ (0 ∷ 0 ∷ []) ∷ (0 ∷ 0 ∷ []) ∷ [])
unfolding marked
reads = (refl, refl)

-- "two 64-bit words, little-endian in 16 bytes"
abbrev sixteen : List ℕ
sixteen = 1 ∷ 2 ∷ 3 ∷ 4 ∷ 5 ∷ 6 ∷ 7 ∷ 8 ∷ 9 ∷ 10 ∷ 11 ∷ 12 ∷ 13 ∷ 14 ∷ 15 ∷ 16 ∷ []

pub words : words_of sixteen ∷ read_words sixteen ∷ bytes_of_words (0x0807060504030201 ∷ 0x100F0E0D0C0B0A09 ∷ []) ∷ []
    ≡ (0x0807060504030201 ∷ 0x100F0E0D0C0B0A09 ∷ []) ∷ (0x0807060504030201 ∷ 0x100F0E0D0C0B0A09 ∷ []) ∷ sixteen ∷ []
unfolding marked
words = refl

-- "slot above 125 to set, above 127 to ask": 3
pub answers : (map set_answer (0 ∷ 125 ∷ 126 ∷ 127 ∷ 128 ∷ []) ≡ given tt ∷ given tt ∷ refused 3 ∷ refused 3 ∷ refused 3 ∷ [])
    × (map (ask_answer (1 ∷ (2 ^ 63) ∷ [])) (0 ∷ 1 ∷ 64 ∷ 127 ∷ 128 ∷ []) ≡ given true ∷ given false ∷ given false ∷ given true ∷ refused 3 ∷ [])
    × (map reserved ((0 ∷ (2 ^ 61) ∷ []) ∷ (0 ∷ (2 ^ 62) ∷ []) ∷ (0 ∷ (2 ^ 63) ∷ []) ∷ []) ≡ false ∷ true ∷ true ∷ [])
unfolding marked
answers = (refl, refl, refl)

-- setting slots 5 and 64 drops bit 127, and keeps 126; slot 126 is not set; clearing; joining; the first slot taken
-- out, and none
pub diffs : set_words (0 ∷ (2 ^ 63) ∷ []) 5 ∷ set_words (1 ∷ (2 ^ 63 + 2 ^ 62) ∷ []) 64 ∷ set_words (1 ∷ (2 ^ 63) ∷ []) 126 ∷ cleared_words (5 ∷ 1 ∷ []) ∷ joined (1 ∷ 2 ∷ []) (3 ∷ (2 ^ 63) ∷ []) ∷ without_first (6 ∷ 1 ∷ []) ∷ without_first (0 ∷ 0 ∷ []) ∷ []
    ≡ (32 ∷ 0 ∷ []) ∷ (1 ∷ (2 ^ 62 + 1) ∷ []) ∷ (1 ∷ (2 ^ 63) ∷ []) ∷ (5 ∷ (2 ^ 63 + 1) ∷ []) ∷ (3 ∷ (2 ^ 63 + 2) ∷ []) ∷ (4 ∷ 1 ∷ []) ∷ (0 ∷ 0 ∷ []) ∷ []
unfolding of_marks word_of marked slots_below
diffs = refl

-- "Slots go in rising order"; "Count is the ones of both words, bit 127 included"
pub marks : slots (5 ∷ (2 ^ 61 + 1) ∷ []) ∷ map count_of ((5 ∷ (2 ^ 61 + 1) ∷ []) ∷ ((2 ^ 64 - 1) ∷ (2 ^ 64 - 1) ∷ []) ∷ []) ∷ map first_slot ((6 ∷ 1 ∷ []) ∷ (0 ∷ 1 ∷ []) ∷ (0 ∷ 0 ∷ []) ∷ []) ∷ []
    ≡ (0 ∷ 2 ∷ 64 ∷ 125 ∷ []) ∷ (4 ∷ 128 ∷ []) ∷ (1 ∷ 64 ∷ 128 ∷ []) ∷ []
unfolding slots_below marked
marks = refl

-- a page with 7s in slot 0, 8s in slot 1, 3s in slot 125, 1s in the bytes that are nobody's, 2s after them
abbrev page : List ℕ
page = replicate 32 7 ++ (replicate 32 8 ++ (replicate 3936 0 ++ (replicate 32 3 ++ (replicate 24 1 ++ replicate 40 2))))

-- slots 1 and 125
abbrev two : List ℕ
two = 2 ∷ (2 ^ 61) ∷ []

-- "Pack and unpack: page length 2, 4, nodes length 2"
pub packs : (pack_answer two page ∷ pack_answer (0 ∷ (2 ^ 62) ∷ []) [] ∷ pack_answer (0 ∷ (2 ^ 62) ∷ []) page ∷ pack_answer (0 ∷ (2 ^ 63) ∷ []) page ∷ [])
    ∷ (unpack_answer two 2 page ∷ unpack_answer (0 ∷ (2 ^ 62) ∷ []) 2 [] ∷ unpack_answer (0 ∷ (2 ^ 62) ∷ []) 2 page ∷ unpack_answer two 1 page ∷ unpack_answer two 3 page ∷ []) ∷ []
    ≡ (given tt ∷ refused 2 ∷ refused 4 ∷ refused 4 ∷ []) ∷ (given tt ∷ refused 2 ∷ refused 4 ∷ refused 2 ∷ refused 2 ∷ []) ∷ []
unfolding pack_answer unpack_answer marked slots_below
packs = refl

-- "entries from the count on are zero"; a refused pack answers none
pub packed : packed_of two page ∷ packed_of (0 ∷ (2 ^ 62) ∷ []) page ∷ [] ≡ packed_by (replicate 32 8 ∷ replicate 32 3 ∷ replicate 124 (replicate 32 0)) 2 ∷ packed_by (replicate 126 (replicate 32 0)) 0 ∷ []
unfolding pack_answer table_of marked slots_below block
packed = refl

-- nodes of 4s and 5s put back into slots 1 and 125, bytes of every part of the page; a refusal leaves all
abbrev nodes : List (List ℕ)
nodes = replicate 32 4 ∷ replicate 32 5 ∷ replicate 32 6 ∷ []

unpacked_at : (j : ℕ) → j < 4096 → get_or (unpacked_page two nodes 2 page) j 0 ≡ unpacked_byte two nodes page j
unfolding unpack_answer marked slots_below
unpacked_at j h = tabulate-get_or (unpacked_byte two nodes page) 4096 j h

six : {a b c d e f x y z u v w : ℕ} → a ≡ x → b ≡ y → c ≡ z → d ≡ u → e ≡ v → f ≡ w → a ∷ b ∷ c ∷ d ∷ e ∷ f ∷ [] ≡ x ∷ y ∷ z ∷ u ∷ v ∷ w ∷ []
six p q r s t o = cc

pub unpacked : (map (λ j. get_or (unpacked_page two nodes 2 page) j 0) (31 ∷ 32 ∷ 64 ∷ 4000 ∷ 4032 ∷ 4095 ∷ []) ≡ 7 ∷ 4 ∷ 0 ∷ 5 ∷ 1 ∷ 2 ∷ []) × (unpacked_page two nodes 1 page ≡ page)
unfolding unpack_answer marked slots_below
unpacked = (
  six (unpacked_at 31 (omega arith)) (unpacked_at 32 (omega arith)) (unpacked_at 64 (omega arith)) (unpacked_at 4000 (omega arith)) (unpacked_at 4032 (omega arith)) (unpacked_at 4095 (omega arith)),
  refl,
)

-- packing into lent memory: "page length 2, 4", then 2 for that memory; the count, and the table node after node
abbrev twos : List ℕ
twos = replicate 4096 2

pub packs_into : pack_into_answer (0 ∷ (2 ^ 62) ∷ []) [] (replicate 4032 6) ∷ pack_into_answer (0 ∷ (2 ^ 62) ∷ []) twos [] ∷ pack_into_answer (1 ∷ 0 ∷ []) twos [] ∷ pack_into_answer (1 ∷ 0 ∷ []) twos (replicate 4032 6) ∷ []
    ≡ refused 2 ∷ refused 4 ∷ refused 2 ∷ given 1 ∷ []
unfolding pack_into_answer marked slots_below
packs_into = refl

pub packed_into_lem : packed_into (1 ∷ 0 ∷ []) twos (replicate 4032 6) ∷ packed_into (1 ∷ 0 ∷ []) twos (6 ∷ []) ∷ [] ≡ (replicate 32 2 ++ replicate 4000 0) ∷ (6 ∷ []) ∷ []
unfolding pack_into_answer table_of flat block marked slots_below
packed_into_lem = refl
