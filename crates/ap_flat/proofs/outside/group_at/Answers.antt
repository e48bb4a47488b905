use Rattle.std.proofs.Common.{◌≡◌, ◌∙◌, ◌++◌, Some, arith, sym, ap}
use Rattle.std.specs.Prelude.{codes, slice_get}
use Rattle.std.proofs.lemmas.Bool.{both_ways}
use Rattle.std.proofs.lemmas.Option.{slice_get-get_or}
use Rattle.ap_flat.proofs.GroupPieces.{enable_leaves, enable_narrow, group_found, no_group_found, storage_is}
use Rattle.ap_flat.proofs.outside.group_at.Goals as goal

pub returns-in_default-2-clause-none : goal.returns-in_default-2-clause-none
returns-in_default-2-clause-none c = λ g is b.
    let enable = c.enable-item.result in
    let at : slice_get c.args.ports.now 0 ≡ Some enable = slice_get-get_or c.args.ports.now 0 enable (omega arith) ∙ ap Some (sym c.enable-item.is) in
    let named : enable.name ≡ codes "w_" ++ c.in-Some.text.now ++ codes "_e" = sym c.as_str.ensures ∙ sym c.as_bytes.ensures.value ∙ c.in-Some.ensures.some in
    let none = rw c.in_default-2.is at c.in_ok-storage.ensures.none in
    none _ (storage_is c.args.ports.now enable at g is b c.in-Some.text.now named)

pub returns-then-not-is_enable-clause-none : goal.returns-then-not-is_enable-clause-none
returns-then-not-is_enable-clause-none c = λ g is b.
    let enable = c.enable-item.result in
    let at : slice_get c.args.ports.now 0 ≡ Some enable = slice_get-get_or c.args.ports.now 0 enable (omega arith) ∙ ap Some (sym c.enable-item.is) in
    both_ways c.is_enable.result c.if-not-is_enable.true (c.is_enable.ensures.1 (enable_leaves c.args.ports.now enable at g is b, enable_narrow c.args.ports.now enable at g is b))

pub returns-clause-some : goal.returns-clause-some
returns-clause-some c =
    let enable = c.enable-item.result in
    let at : slice_get c.args.ports.now 0 ≡ Some enable = slice_get-get_or c.args.ports.now 0 enable (omega arith) ∙ ap Some (sym c.enable-item.is) in
    let named : enable.name ≡ codes "w_" ++ c.in-Some.text.now ++ codes "_e" = sym c.as_str.ensures ∙ sym c.as_bytes.ensures.value ∙ c.in-Some.ensures.some in
    let stored = rw c.in-Some-2.is at c.in_ok-storage.ensures.some in
    let narrow = c.is_enable.ensures.0 c.if-not-is_enable.false in
    group_found c.args.ports.now enable c.in-Some.text.now at named c.in-Some-2.storage stored narrow.0 narrow.1 c.in_ok-found.found c.in_ok-found.ensures.some

pub returns-clause-none : goal.returns-clause-none
returns-clause-none c =
    let enable = c.enable-item.result in
    let at : slice_get c.args.ports.now 0 ≡ Some enable = slice_get-get_or c.args.ports.now 0 enable (omega arith) ∙ ap Some (sym c.enable-item.is) in
    let named : enable.name ≡ codes "w_" ++ c.in-Some.text.now ++ codes "_e" = sym c.as_str.ensures ∙ sym c.as_bytes.ensures.value ∙ c.in-Some.ensures.some in
    let stored = rw c.in-Some-2.is at c.in_ok-storage.ensures.some in
    no_group_found c.args.ports.now enable c.in-Some.text.now at named c.in-Some-2.storage stored c.in_ok-found.found c.in_ok-found.ensures.none
