-- 01, 'Growth', the copy: the new image by recursion over the old buckets. Assumes nothing.
use Rattle.std.specs.Prelude.{Result, Ok, Err, Bool, cond, ◌&&◌, List, ℕ, zero, suc, ltb, eqb, length, get_or, set, replicate}
use Rattle.answers.specs.Answers.{Answer, given, refused, and_then}
use Rattle.answers.specs.Refusals.{number_of}
use Rattle.blocks.specs.Blocks.{block, put}
use Rattle.ht_file.specs.Places.{count_allowed, tags_of, image_length, page_start, if_table}
use Rattle.meta_map.specs.Tags.{is_full, full_tag}
use Rattle.probe.specs.Path.{Limit, allocating}
use Rattle.answers.specs.declared.Refusal.{Refusal}
use Rattle.rehash.specs.declared.Grown.{Grown}
use Rattle.rehash.specs.declared.Grown.TheVariants as grown

-- the page of bucket b
abbrev pub page_at : List ℕ → ℕ → ℕ → List ℕ
page_at img n b = block 4096 img (page_start n b)

-- a page stored in the bucket that was allocated for its hash: its full tag and its bytes; else the refusal
abbrev pub stored : List ℕ → ℕ → ℕ → List ℕ → Answer ℕ → Answer (List ℕ)
stored img n h page (given c) = given (put (set img c (full_tag h)) (page_start n c) page)
stored img n h page (refused m) = refused m

-- "the new image is zeroed"
abbrev pub zeroed : ℕ → List ℕ
zeroed n = replicate (image_length n) 0

-- what old bucket b, with the hash h, makes of a new image: a full one "is allocated by its lent hash [..] and its page copied"; any other
-- adds nothing
abbrev pub bucket_moved : Limit → List ℕ → ℕ → ℕ → ℕ → ℕ → List ℕ → Answer (List ℕ)
bucket_moved limit old old_n new_n h b img =
    cond (is_full (get_or old b 0)) (stored img new_n h (page_at old old_n b) (allocating limit (tags_of new_n img) new_n h)) (given img)

-- "then each full old bucket, rising": the new image after the first k old buckets, or the refusal of one of them; the limit is allocation's
unfoldable pub grown_to : Limit → List ℕ → ℕ → ℕ → List ℕ → ℕ → Answer (List ℕ)
unfolding allocating put block
grown_to limit old old_n new_n hashes zero = given (zeroed new_n)
grown_to limit old old_n new_n hashes (suc k) =
    and_then (grown_to limit old old_n new_n hashes k) (bucket_moved limit old old_n new_n (get_or hashes k 0) k)

abbrev pub copied : Limit → List ℕ → ℕ → ℕ → List ℕ → Answer (List ℕ)
copied limit old old_n new_n hashes = grown_to limit old old_n new_n hashes old_n

-- what the copy did where it was not refused
pub data Growth : Type 0 where
  done nothing_to_do : Growth

-- refusal 2: "another lent slice (in growth, either image) has the wrong length"; "one per old bucket"
abbrev pub lengths_fit : List ℕ → ℕ → List ℕ → ℕ → List ℕ → Bool
lengths_fit old old_n new new_n hashes = eqb (length old) (image_length old_n) && eqb (length new) (image_length new_n) && eqb (length hashes) old_n

abbrev pub end_of : {A B : Type 0} → B → Answer A → Answer B
end_of b (given a) = given b
end_of b (refused m) = refused m

-- "Growth: 1 for counts, 19, nothing to do, 2 for images and hashes, 10 or 11"; "New = old answers nothing to do and writes nothing"
abbrev pub growth_answer : Limit → List ℕ → ℕ → List ℕ → ℕ → List ℕ → Answer Growth
growth_answer limit old old_n new new_n hashes =
    if_table (count_allowed old_n && count_allowed new_n)
    (cond (ltb new_n old_n) (refused 19)
    (cond (eqb new_n old_n) (given nothing_to_do)
    (cond (lengths_fit old old_n new new_n hashes) (end_of done (copied limit old old_n new_n hashes)) (refused 2))))

-- the image of an answer, or what stands there otherwise
abbrev pub image_or : List ℕ → Answer (List ℕ) → List ℕ
image_or img (given x) = x
image_or img (refused m) = img

-- the copy is made
abbrev pub goes_on : List ℕ → ℕ → List ℕ → ℕ → List ℕ → Bool
goes_on old old_n new new_n hashes = count_allowed old_n && count_allowed new_n && ltb old_n new_n && lengths_fit old old_n new new_n hashes

-- the new image afterwards: "growth refused with 10 or 11 leaves the new image all zero"; any other refusal leaves it
abbrev pub growth_image : Limit → List ℕ → ℕ → List ℕ → ℕ → List ℕ → List ℕ
growth_image limit old old_n new new_n hashes =
    cond (goes_on old old_n new new_n hashes) (image_or (zeroed new_n) (copied limit old old_n new_n hashes)) new

abbrev pub grown_said : Result Grown Refusal → Answer Growth
grown_said (Ok grown.Done) = given done
grown_said (Ok grown.NothingToDo) = given nothing_to_do
grown_said (Err r) = refused (number_of r)
