use Rattle.std.proofs.Common.{refl, sym, ap, subst, ◌∙◌, arith}
use Rattle.std.specs.Prelude.{codes}
use Rattle.ap_net.specs.Draft.{CanFresh}
use Rattle.ap_net.proofs.Laws.{IsNet-Adds, Makes-trans}
use Rattle.ap_merge.specs.Selects.{GoesOver}
use Rattle.stage_tests.proofs.Alone.{fresh_blank, made_shown, new_unit, placed_shown, unit_is_other}
use Rattle.stage_tests.proofs.Doubling.{ground_there, word_on, word_there}
use Rattle.stage_tests.proofs.units.nine_users.Goals as goal

pub constant-requires : goal.constant-requires
constant-requires c = record { fresh = subst CanFresh (sym c.in_ok-out.ensures) (fresh_blank (codes "top")); low = omega arith; high = omega arith; fits = omega arith }

pub nine_courses-requires : goal.nine_courses-requires
nine_courses-requires c =
    let word = c.in_ok-word.ensures in
    record {
      fresh = word.wiring.makes.fresh (subst CanFresh (sym c.in_ok-out.ensures) (fresh_blank (codes "top")));
      word = word_there _ _ c.in_ok-word.word word.carries.net word.carries.wide word.wiring;
      ground = c.word_ground-ground.ensures;
    }

pub serve_quick-requires : goal.serve_quick-requires
serve_quick-requires c =
    let word = c.in_ok-word.ensures in
    let all = c.in_ok-courses.ensures in
    let makes = Makes-trans _ _ _ word.wiring.makes all.makes in
    let has = word_on _ _ c.in_ok-word.word all.makes.adds (word_there _ _ c.in_ok-word.word word.carries.net word.carries.wide word.wiring) in
    record {
      top = makes.adds.extends.name ∙ ap (λ d. d.name) c.in_ok-out.ensures;
      fresh = makes.fresh (subst CanFresh (sym c.in_ok-out.ensures) (fresh_blank (codes "top")));
      ground = ground_there _ c.in_ok-word.word c.word_ground-ground.result has c.word_ground-ground.ensures;
      courses = rw c.deref_mut.ensures.value all.courses;
      unit = record {
        servable = rw c.deref_mut.ensures.value (record { over = subst (GoesOver c.in_ok-halves.field-0 0) (sym all.count) c.in_ok-halves.ensures; unserved = all.unserved });
        ports = c.in_ok-unit.ensures;
        is_name = rw c.in_ok-copy_of.ensures refl;
        other = rw c.in_ok-copy_of.ensures unit_is_other;
        new = rw c.in_ok-copy_of.ensures (makes.names (codes "u_U") unit_is_other (rw c.in_ok-out.ensures (new_unit (codes "top"))));
        fit = rw c.deref_mut.ensures.value all.fit;
      };
      can = rw c.deref_mut.ensures.value all.can;
    }

pub shown-requires : goal.shown-requires
shown-requires c =
    let word = c.in_ok-word.ensures in
    let all = c.in_ok-courses.ensures in
    let once = c.in_ok-serve_quick.ensures.places.places in
    let h = placed_shown _ _ once.placed (once.named ∙ c.in_ok-copy_of.ensures) (made_shown _ _ _ c.in_ok-out.ensures (Makes-trans _ _ _ word.wiring.makes all.makes)) once.places in
    let net = IsNet-Adds _ _ c.in_ok-word.word once.places.adds (IsNet-Adds _ _ c.in_ok-word.word all.makes.adds word.carries.net) in
    record { adds = h.adds; closes = h.closes; new = h.new; net = net; wide = word.carries.wide; low = omega arith; high = omega arith }
