-- A record that stands in a log is read back as its entry. Assumes nothing.
use mathlib.Core.Path.{◌≡◌, refl, sym, ap, ap₂, ◌∙◌}
use mathlib.Core.Bool.{Bool, cond}
use mathlib.Core.List.{List, [], ◌∷◌, ◌++◌, append_assoc}
use Prim.Native.Nat.{ℕ, suc, ◌+◌, ◌*◌, ◌^◌, ◌≤◌, ◌<◌}
use native.Mathlib.Omega.{arith}
use lib.Dec.{leb, eqb}
use lib.ListN.{length, get_or, take, drop, length-append}
use lib.Seq.{take_at, drop_at, get_or_at}
use borrow.Author.Tests.{le-leb}
use Rattle.blocks.specs.Blocks.{le, bytes_of, block, flat}
use Rattle.blocks.proofs.Laws.{block_at, bytes-length, le-bytes_of}
use Rattle.page_diff.specs.Diff.{words_of, bytes_of_words, count_of, reserved}
use Rattle.wal.specs.Log.{Entry, clear, update, mark, mark_size, record_of, update_body, clear_size, update_size}
use Rattle.wal.specs.Reader.{Next, next, ended, stopped, clear_at, nodes_from, diff_at, update_of, update_at, by_tag, by_mark, next_at}
use Rattle.wal.specs.Run.{Rows, Handed, WellFormed}
use Rattle.wal.specs.declared.Edition.{Edition}
use Rattle.wal.specs.declared.Edition.TheVariants.{One, Two}

-- a part of a list that stands whole in it
pub block_in : (k : ℕ) (s : List ℕ) (at : ℕ) (p xs q : List ℕ) → s ≡ p ++ (xs ++ q) → at ≡ length p → length xs ≡ k → block k s at ≡ xs
block_in k s at p xs q e f l =
    let long : length s ≡ length p + (length xs + length q) = ap length e ∙ length-append p (xs ++ q) ∙ ap (λ (n : ℕ). length p + n) (length-append xs q) in
    block_at k s at (omega arith)
    ∙ ap (λ (x : List ℕ). take k (drop at x)) e ∙ ap (take k) (drop_at p (xs ++ q) at (sym f)) ∙ take_at xs q k l

pub byte_in : (s : List ℕ) (at : ℕ) (p : List ℕ) (b : ℕ) (q : List ℕ) → s ≡ p ++ (b ∷ q) → at ≡ length p → get_or s at 0 ≡ b
byte_in s at p b q e f = ap (λ (x : List ℕ). get_or x at 0) e ∙ get_or_at p b q 0 at (sym f)

-- ---- the mark, over both editions
pub mark-length : (ed : Edition) (t : ℕ) → length (mark ed t) ≡ mark_size ed
mark-length One t = refl
mark-length Two t = refl

pub mark_some : (ed : Edition) → 1 ≤ mark_size ed
mark_some One = omega arith
mark_some Two = omega arith

pub mark_small : (ed : Edition) → mark_size ed ≤ 2
mark_small One = omega arith
mark_small Two = omega arith

-- a mark that stands in a log is found there
pub mark_in : {A : Type 0} (ed : Edition) (s pre : List ℕ) (t : ℕ) (post : List ℕ) (f g : ℕ → A) → s ≡ pre ++ (mark ed t ++ post) → by_mark ed s (length pre) f g ≡ f t
mark_in One s pre t post f g e =
    let long : length s ≡ length pre + length (t ∷ post) = ap length e ∙ length-append pre (t ∷ post) in
    ap (λ (b : Bool). cond b (f (get_or s (length pre) 0)) (g 6)) (le-leb (length pre + 1) (length s) (omega arith)) ∙ ap f (byte_in s (length pre) pre t post e refl)
mark_in {A = A} Two s pre t post f g e =
    let long : length s ≡ length pre + length (0xB2 ∷ t ∷ post) = ap length e ∙ length-append pre (0xB2 ∷ t ∷ post) in
    let first : get_or s (length pre) 0 ≡ 0xB2 = byte_in s (length pre) pre 0xB2 (t ∷ post) e refl in
    let second : get_or s (length pre + 1) 0 ≡ t = byte_in s (length pre + 1) (pre ++ (0xB2 ∷ [])) t post (e ∙ sym (append_assoc pre (0xB2 ∷ []) (t ∷ post))) (sym (length-append pre (0xB2 ∷ []))) in
    let found : A = cond (leb (length pre + 2) (length s)) (f (get_or s (length pre + 1) 0)) (g 6) in
    ap (λ (b : Bool). cond b (cond (eqb (get_or s (length pre) 0) 0xB2) found (g 8)) (g 6)) (le-leb (length pre + 1) (length s) (omega arith))
    ∙ ap (λ (n : ℕ). cond (eqb n 0xB2) found (g 8)) first
    ∙ ap (λ (b : Bool). cond b (f (get_or s (length pre + 1) 0)) (g 6)) (le-leb (length pre + 2) (length s) (omega arith))
    ∙ ap f second

-- ---- the widths of a record's parts
pub flat-length : (ns : List (List ℕ)) → Rows ns (length ns) → length (flat ns) ≡ 32 * length ns
unfolding flat
flat-length [] h = refl
flat-length (n ∷ ns) h =
    omega (arith, length-append n (flat ns), h 0 (omega arith), flat-length ns (λ i l. h (suc i) (omega arith)))

words-length : (ws : List ℕ) → length (bytes_of_words ws) ≡ 16
words-length ws =
    length-append (bytes_of 8 (get_or ws 0 0)) (bytes_of 8 (get_or ws 1 0)) ∙ ap₂ (λ (m n : ℕ). m + n) (bytes-length 8 (get_or ws 0 0)) (bytes-length 8 (get_or ws 1 0))

pub clear-length : (ed : Edition) (b : ℕ) → length (record_of ed (clear b)) ≡ clear_size ed
unfolding record_of
clear-length ed b = length-append (mark ed 3) (bytes_of 8 b) ∙ ap₂ (λ (m n : ℕ). m + n) (mark-length ed 3) (bytes-length 8 b)

pub update-length : (ed : Edition) (id ws : List ℕ) (ns : List (List ℕ)) (el : List ℕ) (b : ℕ) → Handed id ws ns el b → length (record_of ed (update id ws ns el b)) ≡ update_size ed (length ns)
unfolding record_of
update-length ed id ws ns el b h =
    omega (
      arith,
      mark-length ed 4,
      length-append (mark ed 4) (id ++ (bytes_of_words ws ++ (flat ns ++ (el ++ bytes_of 8 b)))),
      length-append id (bytes_of_words ws ++ (flat ns ++ (el ++ bytes_of 8 b))),
      length-append (bytes_of_words ws) (flat ns ++ (el ++ bytes_of 8 b)),
      length-append (flat ns) (el ++ bytes_of 8 b),
      length-append el (bytes_of 8 b),
      h.wide.change.id_long,
      words-length ws,
      flat-length ns h.rows,
      h.wide.elided_long,
      bytes-length 8 b,
    )

-- ---- the diff's words out of their bytes
pub words_back : (ws : List ℕ) → length ws ≡ 2 → get_or ws 0 0 < 2 ^ 64 → get_or ws 1 0 < 2 ^ 64 → words_of (bytes_of_words ws) ≡ ws
words_back [] e h k = absurd (omega arith)
words_back (x ∷ []) e h k = absurd (omega arith)
words_back (x ∷ y ∷ []) e h k =
    ap₂ (λ (a b : ℕ). a ∷ b ∷ [])
    (ap le (take_at (bytes_of 8 x) (bytes_of 8 y) 8 (bytes-length 8 x)) ∙ le-bytes_of 8 x h)
    (ap le (ap (take 8) (drop_at (bytes_of 8 x) (bytes_of 8 y) 8 (bytes-length 8 x)) ∙ all) ∙ le-bytes_of 8 y k)
  where
    all : take 8 (bytes_of 8 y) ≡ bytes_of 8 y
    all = refl
words_back (x ∷ y ∷ z ∷ ws) e h k = absurd (omega arith)

-- ---- the nodes, one after the other
pub nodes_in : (s : List ℕ) (p : ℕ) (ns : List (List ℕ)) (pre post : List ℕ) → s ≡ pre ++ (flat ns ++ post) → p ≡ length pre → Rows ns (length ns)
    → nodes_from s p (length ns) ≡ ns
unfolding nodes_from flat
nodes_in s p [] pre post e f h = refl
nodes_in s p (n ∷ ns) pre post e f h =
    let one_more : s ≡ pre ++ (n ++ (flat ns ++ post)) = e ∙ ap (λ (l : List ℕ). pre ++ l) (append_assoc n (flat ns) post) in
    let at_rest : p + 32 ≡ length (pre ++ n) = omega (arith, length-append pre n, h 0 (omega arith)) in
    ap₂ (λ (a : List ℕ) (l : List (List ℕ)). a ∷ l)
    (block_in 32 s p pre n (flat ns ++ post) one_more f (h 0 (omega arith)))
    (nodes_in s (p + 32) ns (pre ++ n) post (one_more ∙ sym (append_assoc pre n (flat ns ++ post))) at_rest (λ i l. h (suc i) (omega arith)))

-- ---- a clear
module _ (ed : Edition) (pre post : List ℕ) (b : ℕ) (small : b < 2 ^ 64) where
  abbrev with_clear : List ℕ
  with_clear = pre ++ (record_of ed (clear b) ++ post)

  abbrev clear_after : ℕ
  clear_after = length pre + mark_size ed

  clear_log-length : length with_clear ≡ length pre + (clear_size ed + length post)
  clear_log-length =
      length-append pre (record_of ed (clear b) ++ post) ∙ ap (λ (n : ℕ). length pre + n) (length-append (record_of ed (clear b)) post ∙ ap (λ (n : ℕ). n + length post) (clear-length ed b))

  clear_bucket : le (block 8 with_clear (length pre + mark_size ed)) ≡ b
  unfolding record_of
  clear_bucket =
      ap le (block_in 8 with_clear clear_after (pre ++ mark ed 3) (bytes_of 8 b) post (simp append_assoc) (omega (arith, length-append pre (mark ed 3), mark-length ed 3)) (bytes-length 8 b)) ∙ le-bytes_of 8 b small

  pub next_clear_lem : next_at ed with_clear (length pre) ≡ next (clear b) (length pre + clear_size ed)
  unfolding next_at clear_at record_of
  next_clear_lem =
      let p : ℕ = length pre + mark_size ed in
      let after : p + 8 ≡ length pre + clear_size ed = omega arith in
      mark_in ed with_clear pre 3 (bytes_of 8 b ++ post) (λ t. by_tag t with_clear p) stopped (simp append_assoc)
      ∙ ap (λ (t : Bool). cond t (next (clear (le (block 8 with_clear p))) (p + 8)) (stopped 6)) (le-leb (p + 8) (length with_clear) (omega (arith, clear_log-length)))
      ∙ ap₂ (λ (n q : ℕ). next (clear n) q) clear_bucket after

-- ---- an update
module _ (ed : Edition) (pre post id ws : List ℕ) (ns : List (List ℕ)) (el : List ℕ) (b : ℕ) (h : Handed id ws ns el b) where
  abbrev with_update : List ℕ
  with_update = pre ++ (record_of ed (update id ws ns el b) ++ post)

  abbrev body : ℕ
  body = length pre + mark_size ed

  update_log-length : length with_update ≡ length pre + (update_size ed (length ns) + length post)
  update_log-length =
      length-append pre (record_of ed (update id ws ns el b) ++ post)
      ∙ ap (λ (n : ℕ). length pre + n) (length-append (record_of ed (update id ws ns el b)) post ∙ ap (λ (n : ℕ). n + length post) (update-length ed id ws ns el b h))

  -- where each part stands
  head_mark : length (pre ++ mark ed 4) ≡ length pre + mark_size ed
  head_mark = omega (arith, length-append pre (mark ed 4), mark-length ed 4)

  head_diff : length ((pre ++ mark ed 4) ++ id) ≡ body + 32
  head_diff = omega (arith, head_mark, length-append (pre ++ mark ed 4) id, h.wide.change.id_long)

  head_body : length (((pre ++ mark ed 4) ++ id) ++ bytes_of_words ws) ≡ body + 48
  head_body = omega (arith, head_diff, length-append ((pre ++ mark ed 4) ++ id) (bytes_of_words ws), words-length ws)

  head_nodes : length ((((pre ++ mark ed 4) ++ id) ++ bytes_of_words ws) ++ flat ns) ≡ body + 48 + 32 * length ns
  head_nodes = omega (arith, head_body, length-append (((pre ++ mark ed 4) ++ id) ++ bytes_of_words ws) (flat ns), flat-length ns h.rows)

  head_elided : length (((((pre ++ mark ed 4) ++ id) ++ bytes_of_words ws) ++ flat ns) ++ el) ≡ body + 56 + 32 * length ns
  head_elided = omega (arith, head_nodes, length-append ((((pre ++ mark ed 4) ++ id) ++ bytes_of_words ws) ++ flat ns) el, h.wide.elided_long)

  id_back : block 32 with_update body ≡ id
  unfolding record_of
  id_back =
      block_in 32 with_update body (pre ++ mark ed 4) id ((bytes_of_words ws ++ (flat ns ++ (el ++ bytes_of 8 b))) ++ post) (simp append_assoc) (sym head_mark) h.wide.change.id_long

  diff_back : diff_at with_update body ≡ ws
  unfolding record_of
  diff_back =
      ap words_of (block_in 16 with_update (body + 32) ((pre ++ mark ed 4) ++ id) (bytes_of_words ws) ((flat ns ++ (el ++ bytes_of 8 b)) ++ post) (simp append_assoc) (sym head_diff) (words-length ws))
      ∙ words_back ws h.wide.change.two_words h.wide.change.low_word h.wide.change.high_word

  count_back : count_of (diff_at with_update body) ≡ length ns
  count_back = ap count_of diff_back ∙ sym h.counted

  nodes_back : nodes_from with_update (body + 48) (length ns) ≡ ns
  unfolding record_of
  nodes_back =
      nodes_in with_update (body + 48) ns (((pre ++ mark ed 4) ++ id) ++ bytes_of_words ws) ((el ++ bytes_of 8 b) ++ post) (simp append_assoc) (sym head_body) h.rows

  elided_back : block 8 with_update (body + 48 + 32 * length ns) ≡ el
  unfolding record_of
  elided_back =
      block_in 8 with_update (body + 48 + 32 * length ns) ((((pre ++ mark ed 4) ++ id) ++ bytes_of_words ws) ++ flat ns) el (bytes_of 8 b ++ post) (simp append_assoc) (sym head_nodes) h.wide.elided_long

  bucket_back : le (block 8 with_update (body + 56 + 32 * length ns)) ≡ b
  unfolding record_of
  bucket_back =
      ap le (block_in 8 with_update (body + 56 + 32 * length ns) (((((pre ++ mark ed 4) ++ id) ++ bytes_of_words ws) ++ flat ns) ++ el) (bytes_of 8 b) post (simp append_assoc) (sym head_elided) (bytes-length 8 b))
      ∙ le-bytes_of 8 b h.wide.bucket

  -- the entry out of its parts
  abbrev parts : ℕ → Entry
  parts c =
      update (block 32 with_update body) (diff_at with_update body) (nodes_from with_update (body + 48) c)
      (block 8 with_update (body + 48 + 32 * c)) (le (block 8 with_update (body + 56 + 32 * c)))

  update_back : update_of with_update body ≡ update id ws ns el b
  unfolding update_of
  update_back =
      ap parts count_back
      ∙ (λ i. update (id_back i) (diff_back i) (nodes_back i) (elided_back i) (bucket_back i))

  pub next_update : next_at ed with_update (length pre) ≡ next (update id ws ns el b) (length pre + update_size ed (length ns))
  unfolding next_at update_at record_of
  next_update =
      let at : ℕ = length pre in
      let p : ℕ = at + mark_size ed in
      let c : ℕ = count_of (diff_at with_update p) in
      let whole : Next = next (update_of with_update p) (p + update_body c) in
      let after : p + update_body (length ns) ≡ at + update_size ed (length ns) = omega arith in
      mark_in ed with_update pre 4 ((id ++ (bytes_of_words ws ++ (flat ns ++ (el ++ bytes_of 8 b)))) ++ post) (λ t. by_tag t with_update p) stopped (simp append_assoc)
      ∙ ap (λ (t : Bool). cond t (cond (reserved (diff_at with_update p)) (stopped 4) (cond (leb (p + update_body c) (length with_update)) whole (stopped 6))) (stopped 6))
      (le-leb (p + 48) (length with_update) (omega (arith, update_log-length)))
      ∙ ap (λ (t : Bool). cond t (stopped 4) (cond (leb (p + update_body c) (length with_update)) whole (stopped 6))) (ap reserved diff_back ∙ h.plain)
      ∙ ap (λ (t : Bool). cond t whole (stopped 6)) (le-leb (p + update_body c) (length with_update) (omega (arith, update_log-length, count_back)))
      ∙ ap₂ (λ (e : Entry) (k : ℕ). next e (p + update_body k)) update_back count_back
      ∙ ap (next (update id ws ns el b)) after

-- ---- any record
pub record-length : (ed : Edition) (e : Entry) → WellFormed e → 9 ≤ length (record_of ed e)
record-length ed (clear b) h = omega (arith, clear-length ed b, mark_some ed)
record-length ed (update id ws ns el b) h = omega (arith, update-length ed id ws ns el b h)

pub next_record : (ed : Edition) (pre post : List ℕ) (e : Entry) → WellFormed e → next_at ed (pre ++ (record_of ed e ++ post)) (length pre) ≡ next e (length pre + length (record_of ed e))
next_record ed pre post (clear b) h = next_clear_lem ed pre post b h ∙ ap (λ (n : ℕ). next (clear b) (length pre + n)) (sym (clear-length ed b))
next_record ed pre post (update id ws ns el b) h =
    next_update ed pre post id ws ns el b h ∙ ap (λ (n : ℕ). next (update id ws ns el b) (length pre + n)) (sym (update-length ed id ws ns el b h))

pub next_end : (ed : Edition) (pre post : List ℕ) → next_at ed (pre ++ (mark ed 2 ++ post)) (length pre) ≡ ended
unfolding next_at
next_end ed pre post =
    let s : List ℕ = pre ++ (mark ed 2 ++ post) in
    mark_in ed s pre 2 post (λ t. by_tag t s (length pre + mark_size ed)) stopped refl
