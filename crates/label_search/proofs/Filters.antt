-- Filters: a key that was added is there, and stays. Assumes nothing.
use mathlib.Core.Path.{◌≡◌, ap₂, ◌∙◌}
use mathlib.Core.Bool.{true, ◌&&◌}
use mathlib.Core.List.{List}
use Prim.Native.Nat.{ℕ}
use native.Mathlib.Omega.{arith}
use lib.ListN.{length}
use Rattle.bucket_set.specs.Numbers.{holds_in, with_number}
use Rattle.bucket_set.proofs.Laws.{add_long, has_added, has_still}
use Rattle.ht_file.proofs.Laws.{both_hold}
use Rattle.label_search.specs.InnerFilter.{cell_a, cell_b, cell_c, with_key, has_key}

module _ (f : List ℕ) (key : ℕ) (long : length f ≡ 16384) where
  long_one : length (with_number f (cell_a key)) ≡ 16384
  long_one = add_long f (cell_a key) ∙ long

  long_two : length (with_number (with_number f (cell_a key)) (cell_b key)) ≡ 16384
  long_two = add_long (with_number f (cell_a key)) (cell_b key) ∙ long_one

  pub key_long : length (with_key f key) ≡ 16384
  unfolding with_key
  key_long = add_long (with_number (with_number f (cell_a key)) (cell_b key)) (cell_c key) ∙ long_two

  stays : (j : ℕ) → holds_in f j ≡ true → holds_in (with_key f key) j ≡ true
  unfolding with_key
  stays j e =
      let one = with_number f (cell_a key) in
      has_still (with_number one (cell_b key)) (cell_c key) j (has_still one (cell_b key) j (has_still f (cell_a key) j e))

  -- a key that was there is there
  pub key_stays : (other : ℕ) → has_key f other ≡ true → has_key (with_key f key) other ≡ true
  unfolding has_key
  key_stays other e =
      let p = both_hold (holds_in f (cell_a other) && holds_in f (cell_b other)) (holds_in f (cell_c other)) e in
      let q = both_hold (holds_in f (cell_a other)) (holds_in f (cell_b other)) p.0 in
      ap₂ ◌&&◌ (ap₂ ◌&&◌ (stays (cell_a other) q.0) (stays (cell_b other) q.1)) (stays (cell_c other) p.1)

  -- the key that was added is there
  pub key_added : has_key (with_key f key) key ≡ true
  unfolding has_key with_key
  key_added =
      let one = with_number f (cell_a key) in
      let two = with_number one (cell_b key) in
      ap₂ ◌&&◌
      (ap₂ ◌&&◌ (has_still two (cell_c key) (cell_a key) (has_still one (cell_b key) (cell_a key) (has_added f (cell_a key) (omega (arith, long)))))
      (has_still two (cell_c key) (cell_b key) (has_added one (cell_b key) (omega (arith, long_one)))))
      (has_added two (cell_c key) (omega (arith, long_two)))
