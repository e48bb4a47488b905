use Rattle.std.proofs.Common.{Result, Ok, Err, refl}
use Rattle.std.specs.Result.{MatchResult, IsOk}
use Rattle.ap_bits.proofs.NameLemmas.{IsUtf8-name}
use Rattle.ap_bits.proofs.name.Name.new.Goals as goal

-- a result is Ok where its error can't be
ok_of : {T E : Type 0} (r : Result T E) (P : T → Type 0) (Q : E → Type 0) → MatchResult r P Q → ((e : E) → Q e → ⊥) → IsOk r
ok_of (Ok x) P Q h never = refl
ok_of (Err e) P Q h never = absurd (never e h)

pub unwrap-text-requires : goal.unwrap-text-requires
unwrap-text-requires c = ok_of _ _ _ c.from_utf8.ensures.cases (λ e q. q.0 (IsUtf8-name c.args.name.now c.requires))
