use Rattle.std.proofs.Common.{◌+◌, ◌<◌, ◌^◌, length, take, rules, sym, ◌∙◌, arith}
use Rattle.std.proofs.lemmas.Option.{slice_get_within}
use Rattle.ap_bits.specs.Names.{is_name}
use Rattle.ap_flat.proofs.PortPieces.{rest_all}
use Rattle.ap_flat.proofs.Storages.{a_name, no_name, none_named, none_numbered, storage_there}
use Rattle.ap_flat.proofs.outside.file_port_of.Goals as goal

pub returns-in_default-clause-none : goal.returns-in_default-clause-none
returns-in_default-clause-none c =
    none_named c.args.text.now c.args.at c.requires.at c.requires.first (no_name (is_name (take c.args.at c.args.text.now)) _ c.in_ok-name.field-0 c.in_ok-name.ensures c.in_default.is)

pub overflow_add-at : goal.overflow_add-at
overflow_add-at c =
    let inside : c.args.at < length c.args.text.now = slice_get_within c.args.text.now c.args.at 95 c.requires.at in
    search rules

pub slice_bounds-number_of-count : goal.slice_bounds-number_of-count
slice_bounds-number_of-count c =
    let inside : c.args.at < length c.args.text.now = slice_get_within c.args.text.now c.args.at 95 c.requires.at in
    omega arith

pub slice_bounds-number_of-start : goal.slice_bounds-number_of-start
slice_bounds-number_of-start c =
    let inside : c.args.at < length c.args.text.now = slice_get_within c.args.text.now c.args.at 95 c.requires.at in
    search rules

pub returns-in_default-2-clause-none : goal.returns-in_default-2-clause-none
returns-in_default-2-clause-none c =
    let none = rw c.in_default-2.is at c.in_ok-number.ensures.none in
    none_numbered c.args.text.now c.args.at c.requires.at c.requires.first (λ n low e. none n low (rest_all c.args.text.now (c.args.at + 1) ∙ e))

pub returns-clause-some : goal.returns-clause-some
returns-clause-some c =
    let named = a_name (is_name (take c.args.at c.args.text.now)) _ c.in_ok-name.field-0 c.in-Some.name c.in_ok-name.ensures c.in-Some.is in
    let low : c.in-Some-2.number < 2 ^ 64 = search rules in
    storage_there c.args.text.now c.args.at c.requires.at c.requires.first c.in-Some.name c.in-Some-2.number named.0 named.1 low
    (sym (rest_all c.args.text.now (c.args.at + 1)) ∙ rw c.in-Some-2.is at c.in_ok-number.ensures.some)
