-- `is_list` meets its contract. Assumes nothing.
use Rattle.std.proofs.Common.{◌≡◌, true, arith}
use Rattle.std.proofs.Math.Pow.{are_bytes}
use Rattle.lemmas.specs.AreBytes.{bytes_all}
use Rattle.patch_list.specs.ListLaws.{files_wrong, pointers_wrong, counters_wrong, list_ends}
use Rattle.patch_list.proofs.is_list.Goals as goal

pub returns-in_default : goal.returns-in_default
returns-in_default c =
    let src = c.args.src.now in
    let are : are_bytes src ≡ true = bytes_all src (λ i. omega (arith, c.type_inv.src i)) in
    files_wrong src are c.in_default.ensures

pub returns-in_default-section_at : goal.returns-in_default-section_at
returns-in_default-section_at c =
    let src = c.args.src.now in
    let are : are_bytes src ≡ true = bytes_all src (λ i. omega (arith, c.type_inv.src i)) in
    let files = c.in-Some in
    pointers_wrong src are files.pointers_at files.ensures.1 files.ensures.0 c.in_default-section_at.ensures

pub returns-in_default-section_at-2 : goal.returns-in_default-section_at-2
returns-in_default-section_at-2 c =
    let src = c.args.src.now in
    let are : are_bytes src ≡ true = bytes_all src (λ i. omega (arith, c.type_inv.src i)) in
    let files = c.in-Some in
    let pointers = c.in-Some-section_at in
    counters_wrong src are files.pointers_at files.ensures.1 files.ensures.0 pointers.counters_at pointers.ensures.1 pointers.ensures.0 c.in_default-section_at-2.ensures

pub returns : goal.returns
returns c =
    let src = c.args.src.now in
    let are : are_bytes src ≡ true = bytes_all src (λ i. omega (arith, c.type_inv.src i)) in
    let files = c.in-Some in
    let pointers = c.in-Some-section_at in
    let counters = c.in-Some-section_at-2 in
    list_ends src are files.pointers_at files.ensures.1 files.ensures.0 pointers.counters_at pointers.ensures.1 pointers.ensures.0 counters.end counters.ensures.1 counters.ensures.0
