-- Laws of a store for a pick: the files of three levels, and a pointer that is set. Assumes nothing.
use Rattle.std.specs.Prelude.{ℕ, ◌+◌, ◌≤◌, ◌≡◌, true, List, map, get_or, take, set}
use Rattle.std.proofs.Common.{sym, ap, ◌∙◌, arith}
use Rattle.std.proofs.Math.Option.{some}
use Rattle.lemmas.specs.Lists.{sum}
use Rattle.lemmas.specs.Slices.{sum_next, sum_take}
use Rattle.lemmas.specs.Maps.{map_set}
use Rattle.model.specs.File.{set_pointer}
use Rattle.keys.specs.Key.{key_record}
use Rattle.levels.specs.LevelsLaws as levels
use Rattle.counters.specs.Counters.{counters_of, counters_record}
use Rattle.store.specs.declared.Pointer.{Pointer}
use Rattle.store.specs.declared.Store.{Store}
use Rattle.store.specs.Store.{pointer_of, pointer_record, state_of, store_of, well_store, StoreShape}
use Rattle.store.specs.StoreLaws as store

-- three levels have no more files than all
pub three_counts : (cs : List ℕ) (n : ℕ) → get_or cs n 0 + get_or cs (n + 1) 0 + get_or cs (n + 2) 0 ≤ sum cs
three_counts cs n =
    let e : n + 1 + 1 ≡ n + 2 = omega arith in
    let third : sum (take (n + 2 + 1) cs) ≡ sum (take (n + 2) cs) + get_or cs (n + 2) 0 = sum_next (n + 2) cs in
    let second : sum (take (n + 2) cs) ≡ sum (take (n + 1) cs) + get_or cs (n + 1) 0 = rw e at (sum_next (n + 1) cs) in
    omega (arith, sum_next n cs, sum_take (n + 2 + 1) cs)

-- the store with a level's pointer set is the store of the state with it set
pub pointer_set : (s : Store) → StoreShape s → well_store s ≡ true → (n : ℕ) (k : List ℕ)
    → record { files = s.files; counts = s.counts; pointers = set s.pointers n (record { set = true; key = key_record k }); counters = s.counters } ≡ store_of (set_pointer (state_of s) n k)
unfolding store_of state_of set_pointer pointer_record counters_of counters_record
pointer_set s q h n k =
    let t = (store.sound_says s).0 ((store.well_says s).0 h).sound in
    let l = levels.sound_is s.files s.counts q.files q.records t.levels in
    let e = store.pointers_are s.pointers q.keys t.pointers in
    let p = ap (λ (ps : List Pointer). set ps n (record { set = true; key = key_record k })) e ∙ sym (map_set pointer_record (map pointer_of s.pointers) n (some k)) in
    λ i. record { files = l.0 i; counts = l.1 i; pointers = p i; counters = s.counters }
