-- What is ready stays ready.
use Rattle.std.proofs.Common.{◌≡◌, ℕ, List, Some, sym, subst}
use Rattle.std.specs.Prelude.{slice_get}
use Rattle.std.specs.List.{AllByRecursion as Each}
use Rattle.ap_net.specs.Draft.{Draft, Begins, Extends}
use Rattle.ap_net.proofs.Lists.{get_left, All-from, All-at}
use Rattle.ap_net.proofs.Drafts.{Extends-trans}
use Rattle.ap_net.specs.Ready.{Dependence, Feeds, source, assign, output, Ready, ready, ReadyAfter}

pub stays : {X : Type 0} (xs ys : List X) → Begins xs ys → (k : ℕ) (x : X) → slice_get xs k ≡ Some x → slice_get ys k ≡ Some x
stays {X} xs ys b k x at = subst (λ (l : List X). slice_get l k ≡ Some x) (sym b.1) (get_left xs b.0 k x at)

pub Feeds-Extends : (by : Dependence) (a b : Draft) (n : ℕ) (from : List ℕ) → Extends a b → Feeds by a n from → Feeds by b n from
Feeds-Extends by a b n from e (source net at is same) = source net (stays a.nets b.nets e.nets n net at) is same
Feeds-Extends by a b n from e (assign k x at to same) = assign k x (stays a.assigns b.assigns e.assigns k x at) to same
Feeds-Extends by a b n from e (output k p i w at net flag to same) = output k p i w (stays a.instances b.instances e.instances k i at) net flag to same

pub Ready-Extends : (by : Dependence) (a b : Draft) (n : ℕ) → Extends a b → Ready by a n → Ready by b n
Ready-Extends by a b n e (ready from feeds each) = ready from (Feeds-Extends by a b n from e feeds) (λ j m at. Ready-Extends by a b m e (each j m at))

-- a net that is ready once those are from which it follows
pub ReadyAfter-Feeds : (by : Dependence) (d : Draft) (n : ℕ) (from : List ℕ) → Feeds by d n from → ReadyAfter by d from n
ReadyAfter-Feeds by d n from feeds = λ later e each. ready from (Feeds-Extends by d later n from e feeds) (λ j m at. All-at (Ready by later) from j m each at)

pub ReadyAfter-Extends : (by : Dependence) (a b : Draft) (from : List ℕ) (n : ℕ) → Extends a b → ReadyAfter by a from n → ReadyAfter by b from n
ReadyAfter-Extends by a b from n e h = λ later f each. h later (Extends-trans a b later e f) each

-- one after the other
pub ReadyAfter-trans : (by : Dependence) (a b : Draft) (from mid : List ℕ) (n : ℕ) → Extends a b → Each (ReadyAfter by a from) mid → ReadyAfter by b mid n → ReadyAfter by b from n
ReadyAfter-trans by a b from mid n e first second = λ later f each. second later f (All-from (ReadyAfter by a from) (Ready by later) (λ m h. h later (Extends-trans a b later e f) each) mid first)
