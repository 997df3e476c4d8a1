-- Numbers in buckets.
use Rattle.std.specs.Prelude.{◌≡◌, ℕ, ◌+◌, ◌-◌, ◌*◌, ◌/◌, ◌%◌, ◌^◌, ◌<◌, ◌≤◌, ◌==◌, List, [], ◌∷◌, max, min, nat_le, nat_lt, replicate, slice_index, slice_set, if◌then◌else◌}

-- What numbers came: how many to each bucket and in all, their sum and that of their squares, and the least and the greatest. Counts and sums go as far as 64 bits, the squares as far as 128.
pub record Numbers : Type 0 where
  pub counts : List ℕ
  pub many : ℕ
  pub sum : ℕ
  pub squares : ℕ
  pub least : ℕ
  pub most : ℕ

abbrev pub no_numbers : Numbers
no_numbers = record { counts = replicate 976 0; many = 0; sum = 0; squares = 0; least = 2 ^ 64 - 1; most = 0 }

-- The first number of a bucket: of those below 32 the number itself, and then each power of two has sixteen
abbrev pub low_of : ℕ → ℕ
low_of bucket = if nat_lt bucket 32 then bucket else (16 + bucket % 16) * 2 ^ (bucket / 16 - 1)

-- a number is in this bucket and not in the next
abbrev pub IsBucketOf : ℕ → ℕ → Type 0
IsBucketOf bucket value = (low_of bucket ≤ value) × (value < low_of (bucket + 1))

-- the last number of a bucket, as far as a number of 64 bits goes
abbrev pub high_of : ℕ → ℕ
high_of bucket = if nat_lt bucket 32 then bucket else min ((17 + bucket % 16) * 2 ^ (bucket / 16 - 1)) (2 ^ 64 - 1) - 1

-- one more in the bucket of a number
abbrev pub Counts : List ℕ → ℕ → List ℕ → Type 0
Counts old value new = (bucket : ℕ) × IsBucketOf bucket value × (new ≡ slice_set old bucket (min (slice_index old bucket + 1) (2 ^ 64 - 1)))

-- the least rank up to which this many thousandths of this many numbers lie
abbrev pub rank_of : ℕ → ℕ → ℕ
rank_of many permille = (many * permille + 999) / 1000

-- the bucket of the number of this rank, counted from 1 in the numbers' order, where the first of these buckets has this number
abbrev pub bucket_at : ℕ → List ℕ → ℕ → ℕ
bucket_at first [] rank = first
bucket_at first (count ∷ counts) rank = if nat_le rank count then first else bucket_at (first + 1) counts (rank - count)

-- one more number
pub record HasOneMore (old : Numbers) (value : ℕ) (new : Numbers) : Type 0 where
  pub counts : Counts old.counts value new.counts
  pub many : new.many ≡ min (old.many + 1) (2 ^ 64 - 1)
  pub sum : new.sum ≡ min (old.sum + value) (2 ^ 64 - 1)
  pub squares : new.squares ≡ min (old.squares + value * value) (2 ^ 128 - 1)
  pub least : new.least ≡ min old.least value
  pub most : new.most ≡ max old.most value

-- the least of the numbers, and their mean; 0 of none
abbrev pub least_of : Numbers → ℕ
least_of numbers = if numbers.many == 0 then 0 else numbers.least

abbrev pub mean_of : Numbers → ℕ
mean_of numbers = numbers.sum / max numbers.many 1

-- the variance of a sample; 0 of fewer than two
abbrev pub variance_of : Numbers → ℕ
variance_of numbers =
    if nat_lt numbers.many 2 then 0 else (numbers.squares - numbers.sum * numbers.sum / numbers.many) / (numbers.many - 1)

-- its root, in whole numbers
pub record IsDeviationOf (numbers : Numbers) (root : ℕ) : Type 0 where
  pub below : root * root ≤ variance_of numbers
  pub above : variance_of numbers < (root + 1) * (root + 1)

-- the last number of a bucket, but the greatest number at most
abbrev pub high_within : ℕ → ℕ → ℕ
high_within most bucket = if nat_lt bucket 976 then min (high_of bucket) most else most

-- the number up to which this many thousandths lie
abbrev pub percentile_of : Numbers → ℕ → ℕ
percentile_of numbers permille = high_within numbers.most (bucket_at 0 numbers.counts (rank_of numbers.many permille))
