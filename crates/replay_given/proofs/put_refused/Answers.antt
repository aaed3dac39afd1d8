-- `put_refused` meets its contract: its tag, then its number. Assumes nothing.
use Rattle.std.proofs.Common.{◌≡◌, ℕ, ◌+◌, length, ap, ◌∙◌, arith}
use Rattle.lemmas.specs.Little.{bytes}
use Rattle.lemmas.specs.Slices.{put}
use Rattle.model.specs.Answer.{refused}
use Rattle.model.specs.Snapshot.{byte_long}
use Rattle.model_replay.specs.Recording.{refused_tag}
use Rattle.replay_given.specs.Given.{given_bytes}
use Rattle.replay_given.specs.GivenLaws.{refused_is, numbered_long, numbered_laid}
use Rattle.replay_given.proofs.put_refused.Goals as goal

-- it takes two bytes
long : (n : ℕ) → length (given_bytes (refused n)) ≡ 1 + 1
long n = numbered_long (given_bytes (refused n)) refused_tag byte_long n (refused_is n)

pub put_number-requires : goal.put_number-requires
put_number-requires c =
    let n = long c.args.n in
    omega arith

pub put_number-requires-2 : goal.put_number-requires-2
put_number-requires-2 c =
    let n = long c.args.n in
    omega arith

pub returns : goal.returns
returns c =
    let a = c.args in
    let k = a.n in
    let n = long k in
    let o = c.put_number.new.out in
    let e : c.put_number-2.new.out ≡ put o (a.at + 1) (bytes byte_long k) = c.put_number-2.ensures ∙ ap (λ (m : ℕ). put o (a.at + 1) (bytes byte_long m)) c.from.ensures in
    (omega arith, numbered_laid (given_bytes (refused k)) refused_tag byte_long k (refused_is k) a.out.now o c.put_number-2.new.out a.at (omega arith) c.put_number.ensures e)
