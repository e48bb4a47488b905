-- While a module is being built, every net is ready but some that are pending.
use Rattle.std.specs.Prelude.{◌≡◌, ◌⊎◌, ℕ, ◌<◌, ◌≤◌, List, [], ◌∷◌, ◌++◌, length}
use Rattle.std.specs.List.{AllByRecursion as Each}
use Rattle.ap_net.specs.declared.cell.Wire.{Wire}
use Rattle.ap_net.specs.Draft.{Draft, Extends}
use Rattle.ap_net.specs.Ready.{Dependence, Ready, AreReady, AllReady}
use Rattle.ap_net.specs.Late.{Reads}

abbrev pub Among : List ℕ → ℕ → Type 0
Among [] n = ⊥
Among (m ∷ numbers) n = (m ≡ n) ⊎ Among numbers n

abbrev pub ReadyBut : Dependence → Draft → List ℕ → Type 0
ReadyBut by d pending = (n : ℕ) → n < length d.nets → Ready by d n ⊎ Among pending n

-- the net is one of these, or came between two drafts
abbrev pub IsFrom : List ℕ → Draft → Draft → ℕ → Type 0
IsFrom from a b n = Among from n ⊎ ((length a.nets ≤ n) × (n < length b.nets))

-- Nets came that read these of the old ones alone, and the net that is answered is one of these, or came. So it is ready once these
-- are, now or later.
pub record Yields (from : List ℕ) (old new : Draft) (w : Wire) : Type 0 where
  pub reads : Reads from old new
  pub result : IsFrom from old new w.number

-- all that came between two drafts is among these
abbrev pub CameAmong : List ℕ → Draft → Draft → Type 0
CameAmong more a b = (n : ℕ) → length a.nets ≤ n → n < length b.nets → Among more n

-- How a builder keeps account: a piece over ready nets keeps what is pending; nets that came and aren't ready are added to it; a
-- net that became ready is taken away; where nothing is pending, every net is ready. Pieces that follow each other are one.
pub record Accounts : Type 0 where
  pub begins : (by : Dependence) (d : Draft) → d.nets ≡ [] → ReadyBut by d []
  pub reads : (by : Dependence) (from pending : List ℕ) (a b : Draft) → ReadyBut by a pending → AreReady by a from → Reads from a b → ReadyBut by b pending
  pub comes : (by : Dependence) (pending more : List ℕ) (a b : Draft) → ReadyBut by a pending → Extends a b → CameAmong more a b → ReadyBut by b (more ++ pending)
  pub becomes : (by : Dependence) (n : ℕ) (pending : List ℕ) (d : Draft) → ReadyBut by d (n ∷ pending) → Ready by d n → ReadyBut by d pending
  pub ends : (by : Dependence) (d : Draft) → ReadyBut by d [] → AllReady by d
  pub joined : (from more : List ℕ) (a b c : Draft) → Reads from a b → Reads more b c → Each (IsFrom from a b) more → Reads from a c
  pub follows : (from more : List ℕ) (a b c : Draft) (w : Wire) → Reads from a b → Yields more b c w → Each (IsFrom from a b) more → Yields from a c w
