-- 01, 'Table image': where things stand in an image of n buckets, and how long it is. Assumes nothing.
use Rattle.std.specs.Prelude.{Bool, cond, ◌&&◌, List, ℕ, ◌+◌, ◌*◌, ◌/◌, ltb, leb, eqb, length, take}
use Rattle.answers.specs.Answers.{Answer, given, refused}

-- "n buckets, 1 to 1,048,576"
abbrev pub within_limit : ℕ → Bool
within_limit n = leb n 1048576

abbrev pub count_allowed : ℕ → Bool
count_allowed n = leb 1 n && within_limit n

-- "Tag pages M = ceil(n/4096)"
abbrev pub tag_pages : ℕ → ℕ
tag_pages n = (n + 4095) / 4096

-- the tag pages alone, as probing, allocation and sync are lent them
abbrev pub tags_length : ℕ → ℕ
tags_length n = 4096 * tag_pages n

-- the tag pages of an image
abbrev pub tags_of : ℕ → List ℕ → List ℕ
tags_of n img = take (tags_length n) img

-- "then n data pages; length 4096(M+n)"
abbrev pub image_length : ℕ → ℕ
image_length n = 4096 * (tag_pages n + n)

-- "Bucket b is page M+b"
abbrev pub bucket_page : ℕ → ℕ → ℕ
bucket_page n b = tag_pages n + b

-- the first byte of bucket b's page
abbrev pub page_start : ℕ → ℕ → ℕ
page_start n b = 4096 * bucket_page n b

-- the same as the code asks for it: bucket n's is the image's end; 0 where there are too many buckets, or none such
abbrev pub start_in : ℕ → ℕ → ℕ
start_in n b = cond (within_limit n && leb b n) (page_start n b) 0

-- tags and an image of the given length belong to a table of n buckets
abbrev pub tags_fit : ℕ → ℕ → Bool
tags_fit n len = count_allowed n && eqb len (tags_length n)

abbrev pub image_fits : ℕ → ℕ → Bool
image_fits n len = count_allowed n && eqb len (image_length n)

-- refusal 1: "bucket count 0 or above 1,048,576, or table length wrong"; where the table fits, the answer is x
abbrev pub if_table : {A : Type 0} → Bool → Answer A → Answer A
if_table fits x = cond fits x (refused 1)

-- for a call that is told a count, one that is lent tags, and one that is lent an image
abbrev pub if_count : {A : Type 0} → ℕ → Answer A → Answer A
if_count n x = if_table (count_allowed n) x

abbrev pub if_tags : {A : Type 0} → List ℕ → ℕ → Answer A → Answer A
if_tags ts n x = if_table (tags_fit n (length ts)) x

abbrev pub if_image : {A : Type 0} → List ℕ → ℕ → Answer A → Answer A
if_image img n x = if_table (image_fits n (length img)) x

-- what the call on a bucket's page answers: 1 for the count, then 9 for a bucket at or above n
abbrev pub page_of : ℕ → ℕ → Answer ℕ
page_of n b = if_count n (cond (ltb b n) (given (bucket_page n b)) (refused 9))
