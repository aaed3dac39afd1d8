-- The loop of `octets::zeros_from`: whole words are left, and all bytes from n on are 0 if those left are, past the first c. Assumes nothing.
use Rattle.std.proofs.Common.{◌≡◌, ◌<◌, ◌≤◌, ◌%◌, true, length, drop}
use Rattle.std.proofs.Math.Pow.{are_bytes}
use Rattle.std.specs.Slice.Iter.{chunks_exact_rest, chunks_exact_size}
use Rattle.lemmas.specs.Lists.{all}
use Rattle.octets.specs.Octets.{is_zero}
use Rattle.octets.proofs.zeros_from.Given as goal

abbrev pub invariant-loop-bytes : goal.invariant-loop-bytes
invariant-loop-bytes l =
    let left = chunks_exact_rest l.bytes-iterator in
    record {
      by_words : chunks_exact_size l.bytes-iterator ≡ 8;
      words : length left % 8 ≡ 0;
      of_bytes : are_bytes left ≡ true;
      few : l.c < 8;
      inside : l.c ≤ length left;
      same : all is_zero (drop l.c left) ≡ all is_zero (drop l.n l.a);
    }
