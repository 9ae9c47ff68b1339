-- 01, 'Page' and 'Diff': the marked nodes of a page, packed and put back. Assumes nothing.
use Rattle.std.specs.Prelude.{◌≡◌, cond, List, [], ◌++◌, map, ℕ, ◌-◌, ◌*◌, ◌/◌, ◌%◌, eqb, length, get_or, replicate, Result}
use Rattle.answers.specs.Answers.{Answer, given, refused, accepted, answer_of}
use Rattle.answers.specs.declared.Refusal.{Refusal}
use Rattle.blocks.specs.Blocks.{block, put, flat, tabulate}
use Rattle.page_diff.specs.Diff.{marked, slots_below, slots, count_of, reserved}
use Rattle.page_diff.specs.declared.Packed.{Packed}

-- "126 slots of 32 bytes fill 0..4031": the node at slot s
abbrev pub node_at : List ℕ → ℕ → List ℕ
node_at page s = block 32 page (32 * s)

-- the packed table: the nodes in the slots' order; "entries from the count on are zero"
unfoldable pub table_of : List ℕ → List ℕ → List (List ℕ)
table_of page ss = map (node_at page) ss ++ replicate (126 - length ss) (replicate 32 0)

abbrev pub packed_by : List (List ℕ) → ℕ → Packed
packed_by ns c = record { nodes = ns; count = c }

-- the order of pack: "page length 2, 4"
unfoldable pub pack_answer : List ℕ → List ℕ → Answer (Unit {0})
pack_answer ws page = cond (eqb (length page) 4096) (cond (reserved ws) (refused 4) (given tt)) (refused 2)

-- a refused pack answers no node
abbrev pub packed_of : List ℕ → List ℕ → Packed
packed_of ws page =
    cond (accepted (pack_answer ws page)) (packed_by (table_of page (slots ws)) (count_of ws)) (packed_by (table_of page []) 0)

-- the nodes of a page's marked slots put into s, one after the other; a diff with bit 126 or 127 has none to put
abbrev pub nodes_put : List ℕ → ℕ → List ℕ → List ℕ → List ℕ
nodes_put s at ws page = cond (reserved ws) s (put s at (flat (map (node_at page) (slots ws))))

-- packing into lent memory of 126 nodes: the order of pack, "page length 2, 4", then 2 for that memory; it answers the count
unfoldable pub pack_into_answer : List ℕ → List ℕ → List ℕ → Answer ℕ
pack_into_answer ws page nodes =
    cond (eqb (length page) 4096) (cond (reserved ws) (refused 4) (cond (eqb (length nodes) 4032) (given (count_of ws)) (refused 2)))
    (refused 2)

-- the packed table, node after node; a refusal leaves the memory
abbrev pub packed_into : List ℕ → List ℕ → List ℕ → List ℕ
packed_into ws page nodes = cond (accepted (pack_into_answer ws page nodes)) (flat (table_of page (slots ws))) nodes

-- the order of unpack: "page length 2, 4, nodes length 2"
unfoldable pub unpack_answer : List ℕ → ℕ → List ℕ → Answer (Unit {0})
unpack_answer ws count page =
    cond (eqb (length page) 4096) (cond (reserved ws) (refused 4) (cond (eqb count (count_of ws)) (given tt) (refused 2)))
    (refused 2)

-- which of the packed nodes is slot s's: as many as there are marked slots before it
abbrev pub rank : List ℕ → ℕ → ℕ
rank ws s = length (slots_below ws s)

-- byte j of the page after unpack: its node's byte where its slot is marked, else as it was
abbrev pub unpacked_byte : List ℕ → List (List ℕ) → List ℕ → ℕ → ℕ
unpacked_byte ws ns page j =
    cond (marked ws (j / 32)) (get_or (get_or ns (rank ws (j / 32)) []) (j % 32) 0) (get_or page j 0)

-- the page after unpack; a refusal leaves it
abbrev pub unpacked_page : List ℕ → List (List ℕ) → ℕ → List ℕ → List ℕ
unpacked_page ws ns count page =
    cond (accepted (unpack_answer ws count page)) (tabulate (unpacked_byte ws ns page) 4096) page

-- what unpacking promises, of a table given or lent, with its answer r and the page afterwards
abbrev pub Unpacks : List ℕ → List (List ℕ) → ℕ → List ℕ → Result (Unit {0}) Refusal → List ℕ → Type 0
Unpacks ws ns count page r out = (answer_of r ≡ unpack_answer ws count page) × (out ≡ unpacked_page ws ns count page)
