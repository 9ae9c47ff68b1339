-- 01, 'Table image': what the calls on places answer, each refusal with its number, in literals. Assumes nothing.
use mathlib.Core.Path.{◌≡◌, refl}
use mathlib.Core.Bool.{true, false}
use mathlib.Core.List.{[], ◌∷◌, map}
use Rattle.answers.specs.Answers.{given, refused}
use Rattle.ht_file.specs.Places.{count_allowed, tag_pages, tags_length, image_length, bucket_page, page_start, start_in, tags_fit, image_fits, if_count, page_of}

-- tag pages of 0, 1, 4,096, 4,097, 1,048,576 and 1,048,577 buckets; lengths of 0, 1, 3, 4,097, 1,048,576 and 1,048,577;
-- pages of a first and a last bucket, of one at n, of one beyond the limit, and of none
pub numbers : map (λ n. if_count n (given (tag_pages n))) (0 ∷ 1 ∷ 4096 ∷ 4097 ∷ 1048576 ∷ 1048577 ∷ [])
    ∷ map (λ n. if_count n (given (image_length n))) (0 ∷ 1 ∷ 3 ∷ 4097 ∷ 1048576 ∷ 1048577 ∷ [])
    ∷ (page_of 3 0 ∷ page_of 3 2 ∷ page_of 3 3 ∷ page_of 4097 4096 ∷ page_of 1048576 1048576 ∷ page_of 1048577 0 ∷ page_of 0 0 ∷ []) ∷ []
    ≡ (refused 1 ∷ given 1 ∷ given 1 ∷ given 2 ∷ given 256 ∷ refused 1 ∷ [])
    ∷ (refused 1 ∷ given 8192 ∷ given 16384 ∷ given 16789504 ∷ given 4296015872 ∷ refused 1 ∷ [])
    ∷ (given 1 ∷ given 3 ∷ refused 9 ∷ given 4098 ∷ refused 9 ∷ refused 1 ∷ refused 1 ∷ []) ∷ []
numbers = refl

pub fits : map count_allowed (0 ∷ 1 ∷ 1048576 ∷ 1048577 ∷ [])
    ∷ (tags_fit 1 4096 ∷ tags_fit 4097 8192 ∷ tags_fit 1 8192 ∷ tags_fit 0 0 ∷ [])
    ∷ (image_fits 1 8192 ∷ image_fits 4097 16789504 ∷ image_fits 1 4096 ∷ image_fits 0 0 ∷ []) ∷ []
    ≡ (false ∷ true ∷ true ∷ false ∷ []) ∷ (true ∷ true ∷ false ∷ false ∷ []) ∷ (true ∷ true ∷ false ∷ false ∷ []) ∷ []
fits = refl

-- where a page starts, as the code asks for it: the first byte of bucket 1's page, an image's end, a bucket beyond it, and too many buckets
pub starts : start_in 3 1 ∷ start_in 3 3 ∷ start_in 3 4 ∷ start_in 1048577 0 ∷ start_in 0 0 ∷ [] ≡ 8192 ∷ 16384 ∷ 0 ∷ 0 ∷ 0 ∷ []
starts = refl

-- tags of 3 and 4,097 buckets, bucket 1's page and the page's first byte
pub places : tags_length 3 ∷ tags_length 4097 ∷ bucket_page 3 1 ∷ bucket_page 4097 1 ∷ page_start 3 1 ∷ page_start 4097 1 ∷ [] ≡ 4096 ∷ 8192 ∷ 2 ∷ 3 ∷ 8192 ∷ 12288 ∷ []
places = refl
