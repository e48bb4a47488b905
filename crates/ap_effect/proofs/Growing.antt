-- Writers stay where a draft grows.
use Rattle.std.proofs.Common.{◌≡◌, ℕ, List, [], ◌∷◌, Option, Some, None, refl}
use Rattle.std.specs.Prelude.{IfSome}
use Rattle.std.specs.List.{AllByRecursion as Each}
use Rattle.ap_net.specs.declared.cell.Wire.{Wire}
use Rattle.ap_net.specs.declared.net.ModuleNet.{ModuleNet}
use Rattle.ap_net.specs.Draft.{Draft, Extends}
use Rattle.ap_net.specs.Making.{Makes}
use Rattle.ap_net.proofs.Laws.{Carries-Extends, IsNet-Makes}
use Rattle.ap_ctl.specs.Building.{IsBit}
use Rattle.ap_ctl.proofs.Bits.{IsBit-Makes}
use Rattle.ap_stage.specs.Trees.{IsShallow, StandsOver}
use Rattle.ap_stage.proofs.Shallow.{shallow_on}
use Rattle.ap_effect.specs.declared.write.Writer.{Writer}
use Rattle.ap_effect.specs.Writers.{HasIndex, HasValue, IsGuarded, IsIndex, IsIndexNet, IsWriter, PortsGoOn, TransfersGoOn}

pub guard_on : (a b : Draft) → Makes a b → (o : Option Wire) → IfSome o (IsBit a.nets) → IfSome o (IsBit b.nets)
guard_on a b m None h = tt
guard_on a b m (Some w) h = IsBit-Makes a b w m h

pub guarded_on : (a b : Draft) (writers : List Writer) → Makes a b → Each (IsGuarded a.nets) writers → Each (IsGuarded b.nets) writers
guarded_on a b [] m h = tt
guarded_on a b (w ∷ writers) m h = (record { cond = IsBit-Makes a b w.cond m h.0.cond; guard = guard_on a b m w.guard h.0.guard }, guarded_on a b writers m h.1)

index_on : (a b : Draft) → Makes a b → (bits : Option ℕ) (o : Option Wire) → IsIndex a.nets bits o → IsIndex b.nets bits o
index_on a b m None None h = tt
index_on a b m None (Some w) h = absurd h
index_on a b m (Some n) None h = absurd h
index_on a b m (Some n) (Some w) h = (IsNet-Makes a b w m h.0, h.1)

pub writers_on : (a b : Draft) (bits : Option ℕ) (width : ℕ) (writers : List Writer) → Makes a b → Each (IsWriter a.nets bits width) writers → Each (IsWriter b.nets bits width) writers
writers_on a b bits width [] m h = tt
writers_on a b bits width (w ∷ writers) m h = (
  record {
    guarded = record { cond = IsBit-Makes a b w.cond m h.0.guarded.cond; guard = guard_on a b m w.guard h.0.guarded.guard };
    index = index_on a b m bits w.index h.0.index;
    value = IsNet-Makes a b w.value m h.0.value;
    wide = h.0.wide;
  },
  writers_on a b bits width writers m h.1,
)

-- Parts of writers.

pub are_guarded : (nets : List ModuleNet) (bits : Option ℕ) (width : ℕ) (writers : List Writer) → Each (IsWriter nets bits width) writers → Each (IsGuarded nets) writers
are_guarded nets bits width [] h = tt
are_guarded nets bits width (w ∷ writers) h = (h.0.guarded, are_guarded nets bits width writers h.1)

pub have_value : (nets : List ModuleNet) (bits : Option ℕ) (width : ℕ) (writers : List Writer) → Each (IsWriter nets bits width) writers → Each (HasValue nets width) writers
have_value nets bits width [] h = tt
have_value nets bits width (w ∷ writers) h = (record { cond = h.0.guarded.cond; value = h.0.value; wide = h.0.wide }, have_value nets bits width writers h.1)

pub have_index : (nets : List ModuleNet) (bits width : ℕ) (writers : List Writer) → Each (IsWriter nets (Some bits) width) writers → Each (HasIndex nets bits) writers
have_index nets bits width [] h = tt
have_index nets bits width (w ∷ writers) h = (go w.index refl h.0.index, have_index nets bits width writers h.1)
  where
    go : (o : Option Wire) → w.index ≡ o → IsIndex nets (Some bits) o → HasIndex nets bits w
    go None e x = absurd x
    go (Some i) e x = record { cond = h.0.guarded.cond; index = i; is = e; net = x.0; wide = x.1 }

-- How many `? :` stand before a net, in a later draft.
pub stands_between : (more : ℕ) (leaves : List ℕ) (a b c d : Draft) (n : ℕ) → Extends a b → Extends c d → StandsOver more leaves b c n → StandsOver more leaves a d n
stands_between more leaves a b c d n before after over most each = shallow_on c d _ n after (over most (on leaves each))
  where
    on : (ns : List ℕ) → Each (IsShallow a most) ns → Each (IsShallow b most) ns
    on [] h = tt
    on (m ∷ ns) h = (shallow_on a b most m before h.0, on ns h.1)

-- What is said of a port's nets.

index_later : (a b : Draft) (writers : List Writer) (bits : Option ℕ) (o : Option Wire) → Extends a b → IsIndexNet a writers bits o → IsIndexNet b writers bits o
index_later a b writers None None e h = tt
index_later a b writers None (Some i) e h = absurd h
index_later a b writers (Some n) None e h = absurd h
index_later a b writers (Some n) (Some i) e h = Carries-Extends e h

pub ports_go_on : PortsGoOn
ports_go_on a b fires writers bits width nets e h = record { enable = record { carries = Carries-Extends e h.enable.carries }; index = index_later a b writers bits nets.index e h.index; value = Carries-Extends e h.value }

pub transfers_go_on : TransfersGoOn
transfers_go_on a b valid transfers width nets e h = record { taken = record { carries = Carries-Extends e h.taken.carries }; target = Carries-Extends e h.target }
