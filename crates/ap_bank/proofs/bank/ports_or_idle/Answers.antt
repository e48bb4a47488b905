use Rattle.std.proofs.Common.{◌<◌, ◌∷◌, [], ◌++◌, ℕ, length, get_or, take, sym, subst, arith, List}
use Rattle.std.specs.Prelude.{Option, None}
use Rattle.std.proofs.lemmas.List.{take_all, take_more}
use Rattle.ap_net.specs.Draft.{Draft}
use Rattle.ap_net.proofs.Laws.{Makes-refl, Makes-trans, Reads-joined, Reads-refl}
use Rattle.ap_ctl.specs.Lists.{EachPair}
use Rattle.ap_bank.specs.declared.files.FileWrite.{FileWrite}
use Rattle.ap_bank.specs.Banked.{IsGiven}
use Rattle.ap_bank.proofs.FileBanked.{all_later, pairs_push}
use Rattle.ap_bank.proofs.bank.ports_or_idle.Goals as goal

pub loop-port-init : goal.loop-port-init
loop-port-init c = rw c.new-made.ensures (record { given = tt; reads = Reads-refl [] c.args.out.now; makes = Makes-refl c.args.out.now })

pub port_or_idle-requires : goal.port_or_idle-requires
port_or_idle-requires c = record { fresh = c.loop-port.invariant.makes.fresh c.requires.fresh; index = c.requires.index; value = c.requires.value }

pub loop-port-preserved : goal.loop-port-preserved
loop-port-preserved c =
    let i = c.loop-port.port-index in
    let ports : List (Option FileWrite) = c.args.ports.now in
    let inside : i < length ports = omega arith in
    let h = c.loop-port.invariant in
    let y = c.in_ok-write.ensures in
    let b : Draft = c.loop-port.out in
    let d : Draft = c.port_or_idle.new.out in
    let none : List ℕ = [] in
    record {
      given = rw c.in_ok-push.ensures.ok (subst (λ ps. EachPair (IsGiven c.args.bits c.args.width d) ps (c.loop-port.made ++ c.in_ok-write.write ∷ [])) (sym (take_more ports i None inside))
          (pairs_push (IsGiven c.args.bits c.args.width d) (take i ports) c.loop-port.made (get_or ports i None) c.in_ok-write.write (all_later c.args.bits c.args.width b d (take i ports) c.loop-port.made y.makes.adds.extends h.given) y.given));
      reads = Reads-joined none none _ _ _ h.reads y.reads tt;
      makes = Makes-trans _ _ _ h.makes y.makes;
    }

pub returns-clause-given : goal.returns-clause-given
returns-clause-given c = subst (λ ps. EachPair (IsGiven c.args.bits c.args.width c.loop-port.out) ps c.loop-port.made) (take_all c.loop-port.port-index c.args.ports.now (omega arith)) c.loop-port.invariant.given
