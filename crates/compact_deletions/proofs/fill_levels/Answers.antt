-- `fill_levels` meets its contract: the fill replaces these places of the list.
use Rattle.std.proofs.Common.{◌≡◌, ℕ, ◌+◌, ◌-◌, length, take, drop, replicate, length-drop, length-take-le, ap, ◌∙◌, arith}
use Rattle.std.proofs.Math.ListN.{length-replicate}
use Rattle.std.proofs.Math.Seq.{drop-drop}
use Rattle.lemmas.specs.Slices.{put}
use Rattle.compact_deletions.proofs.fill_levels.Goals as goal

pub returns : goal.returns
unfolding put
returns c =
    let a = c.args in
    let xs = a.out.now in
    let n-is : a.at + a.n - a.at ≡ a.n = omega arith in
    let long : length (take (a.at + a.n - a.at) (drop a.at xs)) ≡ a.n = length-take-le (a.at + a.n - a.at) (drop a.at xs) (omega (arith, length-drop a.at xs)) ∙ n-is in
    let filled : c.fill.new.self ≡ replicate a.n a.level = c.fill.ensures.after (λ y h. h) ∙ ap (λ (k : ℕ). replicate k a.level) long in
    rw (filled, n-is, length-replicate a.n a.level, drop-drop a.n a.at xs)
