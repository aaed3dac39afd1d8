-- Laws of bytes that are written as far as the output has room. Assumes nothing.
use Rattle.std.specs.Prelude.{ℕ, ◌+◌, ◌≤◌, ◌≡◌, List, [], ◌∷◌, length}
use Rattle.std.proofs.Common.{ap, ◌∙◌, append-nil}
use Rattle.lemmas.specs.Lists.{join}
use Rattle.lemmas.specs.Slices.{put, length_put}
use Rattle.patch_scan.specs.Over.{Fitted}

-- a piece is as long as its bytes
pub piece_long : (x : List ℕ) → join (x ∷ []) ≡ x
unfolding join
piece_long x = append-nil x

-- bytes are written where there is room for them
pub fitted_in : (out₀ : List ℕ) (at : ℕ) (bs out : List ℕ) (next : ℕ) → at + length bs ≤ length out₀ → next ≡ at + length bs → out ≡ put out₀ at bs → Fitted out₀ at bs out next
fitted_in out₀ at bs out next h e f = record { room = h; long = ap length f ∙ length_put out₀ at bs h; place = e; laid = f }
