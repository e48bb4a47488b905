use Rattle.std.proofs.Common.{◌≡◌, ◌≢◌, List, [], ◌∷◌, map, Option, sym, subst, ◌∙◌}
use Rattle.std.specs.List.{AllByRecursion as Each}
use Rattle.ap_net.specs.Names.{AreDistinct}
use Rattle.ap_net.specs.Modules.{ModuleText, IsModule, EndsInTop, last_module, earlier}
use Rattle.ap_net.specs.Flat.{IsOpenNetlist, NetlistsOpen, opened_last}
use Rattle.ap_net.proofs.Lists.{All-unmap}
use Rattle.ap_net.proofs.Netlists.{All-last, top_of}
use Rattle.ap_net.proofs.Whole.{opened-IsFlat, opened-AreClocked, opened-registers, opened-resets}
use Rattle.ap_net.proofs.Located.{opened-NamesDiffer, opened-IsFlatDriven}

-- what holds of each module holds of each but the last
All-earlier : (P : ModuleText → Type 0) (modules : List ModuleText) → Each P modules → Each P (earlier modules)
All-earlier P [] h = tt
All-earlier P (m ∷ []) h = tt
All-earlier P (m ∷ n ∷ modules) h = (h.0, All-earlier P (n ∷ modules) h.1)

-- only the last module has instances
earlier_alone : (within modules : List ModuleText) → Each IsModule modules → AreDistinct (map (λ (m : ModuleText). m.name) modules) → EndsInTop (last_module modules) within
    → Each (λ (m : ModuleText). m.instances ≡ []) (earlier modules)
earlier_alone within [] kept d ends = tt
earlier_alone within (m ∷ []) kept d ends = tt
earlier_alone within (m ∷ n ∷ modules) kept d ends =
    let last = top_of (n ∷ modules) within ends in
    let other : last.top.name ≢ m.name = All-last (λ (x : ModuleText). x.name ≢ m.name) (n ∷ modules) last.top (All-unmap (λ name. name ≢ m.name) (λ (x : ModuleText). x.name) (n ∷ modules) d.0) last.last in
    (kept.0.alone (λ e. other (last.name ∙ sym e)), earlier_alone within (n ∷ modules) kept.1 d.1 ends)

pub netlists_open : NetlistsOpen
netlists_open modules h =
    let last = top_of modules (earlier modules) h.last in
    let each : Each IsModule (earlier modules) = All-earlier IsModule modules h.each in
    let kept : IsModule last.top = All-last IsModule modules last.top h.each last.last in
    let alone = earlier_alone (earlier modules) modules h.each h.distinct h.last in
    subst (λ (o : Option ModuleText). IsOpenNetlist (opened_last (earlier modules) o)) (sym last.last) (record {
      flat = opened-IsFlat (earlier modules) last.top each kept last.instances;
      driven = opened-IsFlatDriven (earlier modules) last.top each kept last.instances alone;
      names = opened-NamesDiffer (earlier modules) last.top each kept last.instances;
      clocked = opened-AreClocked (earlier modules) last.top each kept last.instances;
      registers = opened-registers (earlier modules) last.top each kept last.instances;
      resets = opened-resets (earlier modules) last.top each kept last.instances;
    })
