-- Ranges of user keys: which files overlap one, the least widening at level 0, and the range of a list of files. Assumes nothing.
use Rattle.std.specs.Prelude.{ℕ, zero, suc, ◌≡◌, Bool, cond, true, false, not, ◌&&◌, length}
use mathlib.Core.List.{List, [], Memᴰ as In}
use Rattle.std.proofs.Math.Option.{none, some, get_or, map}
use Rattle.lemmas.specs.Lists.{keep, all, find}
use Rattle.model.specs.Key.{Key, user, user_before, before}
use Rattle.model.specs.File.{File}

-- a range of user keys. Start after stop is allowed
pub record Range : Type 0 where
  pub start : List ℕ
  pub stop : List ℕ

-- the range of two internal keys
unfoldable pub between : Key → Key → Range
between a b = record { start = user a; stop = user b }

-- the file's largest user key is not below the start and its smallest not above the end
unfoldable pub overlaps : Range → File → Bool
overlaps r f = not (user_before (user f.largest) r.start) && not (user_before r.stop (user f.smallest))

-- the file's smallest user key is not below the start and its largest not above the end
unfoldable pub inside : Range → File → Bool
inside r f = not (user_before (user f.smallest) r.start) && not (user_before r.stop (user f.largest))

-- ---- the least widening of a range such that every file overlapping it lies inside
-- `wide` contains `r`
pub record Within (r wide : Range) : Type 0 where
  pub start : user_before r.start wide.start ≡ false
  pub stop : user_before wide.stop r.stop ≡ false

-- every file overlapping the range lies inside
abbrev pub Closed : List File → Range → Type 0
Closed fs r = (f : File) → In f fs → overlaps r f ≡ true → inside r f ≡ true

-- `w` is the least widening of `r`. RangeLaws proves that `widen` is one and that there is no other
pub record LeastWidening (fs : List File) (r w : Range) : Type 0 where
  pub contains : Within r w
  pub closed : Closed fs w
  pub least : (v : Range) → Within r v → Closed fs v → Within w v

-- the earlier of two user keys
unfoldable pub earlier : List ℕ → List ℕ → List ℕ
earlier a b = cond (user_before b a) b a

-- the later of two user keys
unfoldable pub later : List ℕ → List ℕ → List ℕ
later a b = cond (user_before a b) b a

-- the least range that contains the range and the file
unfoldable pub stretch : Range → File → Range
stretch r f = record { start = earlier r.start (user f.smallest); stop = later r.stop (user f.largest) }

-- the file overlaps the range and does not lie inside
unfoldable pub sticks_out : Range → File → Bool
sticks_out r f = overlaps r f && not (inside r f)

-- stretches over a file that overlaps and sticks out, at most n times
unfoldable pub widen_by : ℕ → List File → Range → Range
widen_by zero fs r = r
widen_by (suc n) fs r = elim (find (sticks_out r) fs) [ none ↦ r | some f ↦ widen_by n fs (stretch r f) ]

-- the least widening: one turn for each file is enough
unfoldable pub widen : List File → Range → Range
widen fs r = widen_by (length fs) fs r

-- the files overlapping the range, in level order. Level 0 takes the least widening first
unfoldable pub overlapping : ℕ → List File → Range → List File
overlapping zero fs r = keep (overlaps (widen fs r)) fs
overlapping (suc l) fs r = keep (overlaps r) fs

-- ---- the range of a list of files: among keys equal in order, that of the first file counts
-- no file's smallest is before this one's
unfoldable pub is_lowest : List File → File → Bool
is_lowest fs f = all (λ g. not (before g.smallest f.smallest)) fs

-- no file's largest is after this one's
unfoldable pub is_highest : List File → File → Bool
is_highest fs f = all (λ g. not (before f.largest g.largest)) fs

-- the smallest key of the first such file
unfoldable pub low_key : List File → Key
low_key fs = get_or (map (λ (f : File). f.smallest) (find (is_lowest fs) fs)) []

-- the largest key of the first such file
unfoldable pub high_key : List File → Key
high_key fs = get_or (map (λ (f : File). f.largest) (find (is_highest fs) fs)) []

-- the range from the low key to the high key
unfoldable pub range_of : List File → Range
range_of fs = between (low_key fs) (high_key fs)
