use Rattle.std.proofs.Common.{arith, ap, sym, refl, ◌∙◌, ◌≢◌}
use Rattle.std.specs.String.{string_bytes}
use Rattle.ap_desk.proofs.Stored.{first_here, place_past, find_past, get_none}
use Rattle.ap_desk.proofs.table.place_of.Goals as goal

pub returns-then-is_named-clause-found : goal.returns-then-is_named-clause-found
returns-then-is_named-clause-found c =
    let named = c.if-is_named.ensures in
    (first_here _ _ _ c.index-files-i.result c.loop-i.invariant.places c.loop-i-test.true (ap (λ f. string_bytes f.name) (sym c.index-files-i.is) ∙ named.0 refl), c.loop-i-test.true)

pub loop-i-preserved : goal.loop-i-preserved
loop-i-preserved c =
    let other : string_bytes c.index-files-i.result.name ≢ c.args.name.now = λ e. let no = c.if-is_named.ensures.1 e in cc in
    record {
      places = place_past _ _ _ c.index-files-i.result c.loop-i.invariant.places c.loop-i-test.true (λ e. other (ap (λ f. string_bytes f.name) c.index-files-i.is ∙ e));
      found = find_past _ _ _ c.index-files-i.result c.loop-i-test.true (λ e. other (ap (λ f. string_bytes f.name) c.index-files-i.is ∙ e)) ∙ c.loop-i.invariant.found;
    }

pub returns-clause-none : goal.returns-clause-none
returns-clause-none c = get_none _ _ _ (omega arith) c.loop-i.invariant.found
