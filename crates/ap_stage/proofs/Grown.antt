-- What nets mean goes on where a row gets further nets.
use Rattle.std.proofs.Common.{◌≡◌, ◌+◌, ◌-◌, ◌*◌, ◌/◌, ◌%◌, ◌^◌, List, Option, Some, refl, sym, ap, ◌∙◌}
use Rattle.ap_bits.specs.Operations.{sign_extended}
use Rattle.ap_desc.specs.declared.design.Act.{Act}
use Rattle.ap_desc.specs.declared.design.Act.TheVariants as act
use Rattle.ap_desc.specs.declared.design.Arg.{Arg}
use Rattle.ap_desc.specs.declared.design.Arg.TheVariants as arg
use Rattle.ap_net.specs.declared.cell.Wire.{Wire}
use Rattle.ap_net.specs.Draft.{Draft, Extends}
use Rattle.ap_net.specs.Readings.{Reading}
use Rattle.ap_net.proofs.Laws.{Carries-Extends, meant}
use Rattle.ap_stage.specs.declared.row.Line.{Line}
use Rattle.ap_stage.specs.declared.source.Ground.{Ground}
use Rattle.ap_stage.specs.declared.source.Scope.{Scope}
use Rattle.ap_stage.specs.Rows.{IsMade, Keeps}
use Rattle.ap_stage.specs.Sources.{HasNet, IsWired, bits_of, line_value, net_value, value_of}

pub has_kept : (old new : List (Option Wire)) → Keeps old new → (a : Arg) → HasNet old a → HasNet new a
has_kept old new k (arg.Local i) h = (h.0, k.kept i h.0 h.1)
has_kept old new k (arg.Field i) h = tt
has_kept old new k arg.Pc h = tt
has_kept old new k arg.Link h = tt

pub value_kept : (r : Reading) (ground : Ground) (scope : Scope) (old new : List (Option Wire)) → Keeps old new → (a : Arg) → HasNet old a → value_of r ground scope new a ≡ value_of r ground scope old a
value_kept r ground scope old new k (arg.Local i) h = ap (net_value r) (k.kept i h.0 h.1) ∙ sym (ap (net_value r) h.1)
value_kept r ground scope old new k (arg.Field i) h = refl
value_kept r ground scope old new k arg.Pc h = refl
value_kept r ground scope old new k arg.Link h = refl

line_kept : (r : Reading) (ground : Ground) (scope : Scope) (old new : List (Option Wire)) → Keeps old new → (a : Act) → IsWired old a → line_value r ground scope new a ≡ line_value r ground scope old a
line_kept r ground scope old new k (act.ReadReg reg) h = refl
line_kept r ground scope old new k (act.ReadIn input) h = refl
line_kept r ground scope old new k (act.Const width value) h = refl
line_kept r ground scope old new k (act.Zext width a) h = ap (λ v. Some v) (value_kept r ground scope old new k a h)
line_kept r ground scope old new k (act.Sext width a) h = ap (λ v. Some (sign_extended v (bits_of ground scope a) width)) (value_kept r ground scope old new k a h)
line_kept r ground scope old new k (act.Slice high low a) h = ap (λ v. Some ((v / 2 ^ low) % 2 ^ (high - low + 1))) (value_kept r ground scope old new k a h)
line_kept r ground scope old new k (act.Cat a b) h =
    ap (λ v. Some (v * 2 ^ bits_of ground scope b + value_of r ground scope new b)) (value_kept r ground scope old new k a h.0)
    ∙ ap (λ v. Some (value_of r ground scope old a * 2 ^ bits_of ground scope b + v)) (value_kept r ground scope old new k b h.1)
line_kept r ground scope old new k _ h = absurd h

pub wired_kept : (old new : List (Option Wire)) → Keeps old new → (a : Act) → IsWired old a → IsWired new a
wired_kept old new k (act.ReadReg reg) h = tt
wired_kept old new k (act.ReadIn input) h = tt
wired_kept old new k (act.Const width value) h = tt
wired_kept old new k (act.Zext width a) h = has_kept old new k a h
wired_kept old new k (act.Sext width a) h = has_kept old new k a h
wired_kept old new k (act.Slice high low a) h = has_kept old new k a h
wired_kept old new k (act.Cat a b) h = (has_kept old new k a h.0, has_kept old new k b h.1)
wired_kept old new k _ h = absurd h

pub made_kept : (d : Draft) (ground : Ground) (scope : Scope) (old new : List (Option Wire)) (l : Line) (w : Wire) → Keeps old new → IsMade d ground scope old l w → IsMade d ground scope new l w
made_kept d ground scope old new l w k h = record { wired = wired_kept old new k l.act h.wired; net = meant (λ r s is. line_kept r ground scope old new k l.act h.wired ∙ is) h.net }

pub made_on : (a b : Draft) (ground : Ground) (scope : Scope) (row : List (Option Wire)) (l : Line) (w : Wire) → Extends a b → IsMade a ground scope row l w → IsMade b ground scope row l w
made_on a b ground scope row l w e h = record { wired = h.wired; net = Carries-Extends e h.net }
