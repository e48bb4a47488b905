use Rattle.std.proofs.Common.{◌≡◌, ◌++◌, [], ◌∷◌, List, ap, ◌∙◌}
use Rattle.ap_net.specs.Modules.{ModuleText}
use Rattle.ap_top.proofs.machine.joined.Goals as goal

pub new-requires : goal.new-requires
new-requires c =
    let all : c.push-2.new.self.items ≡ c.args.unit ∷ c.args.top ∷ [] =
    c.in_ok-push-2.ensures.items ∙ ap (λ (l : List ModuleText). l ++ c.args.top ∷ []) (c.in_ok-push.ensures.items ∙ ap (λ (l : List ModuleText). l ++ c.args.unit ∷ []) c.new-modules.ensures.items) in
    rw all c.requires

pub returns : goal.returns
returns c =
    let all : c.push-2.new.self.items ≡ c.args.unit ∷ c.args.top ∷ [] =
    c.in_ok-push-2.ensures.items ∙ ap (λ (l : List ModuleText). l ++ c.args.top ∷ []) (c.in_ok-push.ensures.items ∙ ap (λ (l : List ModuleText). l ++ c.args.unit ∷ []) c.new-modules.ensures.items) in
    c.new.ensures ∙ all
