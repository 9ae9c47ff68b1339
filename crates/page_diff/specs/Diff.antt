-- 01, 'Diff': which slots of a page have changed. A diff is given by its two words. Assumes nothing.
use Rattle.std.specs.Prelude.{Bool, true, false, cond, not, ◌&&◌, ◌||◌, List, [], ◌∷◌, ◌++◌, ℕ, zero, suc, ◌+◌, ◌*◌, ◌/◌, ◌%◌, ◌^◌, eqb, leb, length, get_or, take, drop}
use Rattle.answers.specs.Answers.{Answer, given, refused}
use Rattle.blocks.specs.Blocks.{le, bytes_of}

-- the binary digit of x at place i
unfoldable pub digit : ℕ → ℕ → ℕ
digit x i = x / 2 ^ i % 2

-- "Bit i of word w marks slot 64w+i"
unfoldable pub marked : List ℕ → ℕ → Bool
unfolding digit
marked ws s = eqb (digit (get_or ws (s / 64) 0) (s % 64)) 1

abbrev pub one : Bool → ℕ
one true = 1
one false = 0

-- the number whose digit i, for each i below k, is set where slot `from` + i has a mark
unfoldable pub word_of : (ℕ → Bool) → ℕ → ℕ → ℕ
word_of m from zero = 0
word_of m from (suc k) = one (m (from + k)) * 2 ^ k + word_of m from k

-- the two words with the marks m
unfoldable pub of_marks : (ℕ → Bool) → List ℕ
unfolding word_of
of_marks m = word_of m 0 64 ∷ word_of m 64 64 ∷ []

abbrev pub just : Bool → ℕ → List ℕ
just true s = s ∷ []
just false s = []

-- "Slots go in rising order": the marked slots below n
unfoldable pub slots_below : List ℕ → ℕ → List ℕ
slots_below ws zero = []
slots_below ws (suc s) = slots_below ws s ++ just (marked ws s) s

-- all marked slots, bits 126 and 127 included
abbrev pub slots : List ℕ → List ℕ
slots ws = slots_below ws 128

-- "Count is the ones of both words, bit 127 included"
abbrev pub count_of : List ℕ → ℕ
count_of ws = length (slots ws)

-- refusal 4: the diff "has bit 126" or bit 127
abbrev pub reserved : List ℕ → Bool
reserved ws = marked ws 126 || marked ws 127

-- "Setting a slot drops bit 127"; a slot above 125 is refused with 3 and changes nothing
abbrev pub set_marks : List ℕ → ℕ → ℕ → Bool
set_marks ws t s = eqb s t || (marked ws s && not (eqb s 127))

abbrev pub set_answer : ℕ → Answer (Unit {0})
set_answer t = cond (leb t 125) (given tt) (refused 3)

abbrev pub set_words : List ℕ → ℕ → List ℕ
set_words ws t = cond (leb t 125) (of_marks (set_marks ws t)) ws

-- asking: a slot above 127 is refused with 3
abbrev pub ask_answer : List ℕ → ℕ → Answer Bool
ask_answer ws s = cond (leb s 127) (given (marked ws s)) (refused 3)

-- "Bit 127 means cleared"
abbrev pub cleared_words : List ℕ → List ℕ
cleared_words ws = of_marks (λ s. marked ws s || eqb s 127)

-- "Join is OR"
abbrev pub joined : List ℕ → List ℕ → List ℕ
joined a b = of_marks (λ s. marked a s || marked b s)

-- the first marked slot, 128 where there is none, and the marks without it
abbrev pub first_slot : List ℕ → ℕ
first_slot ws = get_or (slots ws) 0 128

abbrev pub without_first : List ℕ → List ℕ
without_first ws = of_marks (λ s. marked ws s && not (eqb s (first_slot ws)))

-- "two 64-bit words, little-endian in 16 bytes"
abbrev pub words_of : List ℕ → List ℕ
words_of bs = le (take 8 bs) ∷ le (take 8 (drop 8 bs)) ∷ []

abbrev pub bytes_of_words : List ℕ → List ℕ
bytes_of_words ws = bytes_of 8 (get_or ws 0 0) ++ bytes_of 8 (get_or ws 1 0)

-- "Reading refuses bit 126 or 127": with 4, and the diff is then the unmarked one
abbrev pub read_answer : List ℕ → Answer (Unit {0})
read_answer bs = cond (reserved (words_of bs)) (refused 4) (given tt)

abbrev pub read_words : List ℕ → List ℕ
read_words bs = cond (reserved (words_of bs)) (0 ∷ 0 ∷ []) (words_of bs)
