-- `lay_numbers` meets its contract: the copy replaces the front of the list.
use Rattle.std.proofs.Common.{ap, sym, ◌∙◌, ◌++◌, List, ℕ, length, drop}
use Rattle.lemmas.specs.Slices.{put_front}
use Rattle.compact_deletions.proofs.lay_numbers.Goals as goal

pub returns : goal.returns
returns c =
    let ns = c.args.numbers.now in
    ap (λ (z : List ℕ). z ++ drop (length ns) c.args.out.now) c.copy_from_slice.ensures.after ∙ sym (put_front c.args.out.now ns)
