use Rattle.std.proofs.Common.{◌≡◌, [], ◌∷◌, true, is_ok, Ok, Err, Result, sym, refl, ap, ◌∙◌}
use Rattle.std.proofs.lemmas.Bool.{false≢true}
use Rattle.std.specs.Result.{MatchResult}
use Rattle.scale.specs.declared.Refusal.{Refusal}
use Rattle.orders.specs.Orders.{ordered, latticed, spread, opposing, greatest_of, meet_of, join_of}
use Rattle.orders.specs.Words.{readable, law_verdict, rows_of, opposites_of, verdict}
use Rattle.table.proofs.Table.new.Goals as goal

-- the words of the chain make a table
stands : verdict (1610678273 ∷ 1610612739 ∷ []) ≡ Ok tt
unfolding verdict readable law_verdict rows_of opposites_of ordered latticed spread opposing greatest_of meet_of join_of
stands = refl

ok_read : {T : Type 0} (r : Result T Refusal) (P : T → Type 0) (v : Result (Unit {0}) Refusal) → v ≡ Ok tt → MatchResult r P (λ e. v ≡ Err e) → is_ok r ≡ true
ok_read (Ok t) P v h m = refl
ok_read (Err e) P v h m = absurd (false≢true (ap is_ok (sym m ∙ h)))

pub unwrap-requires : goal.unwrap-requires
unwrap-requires c = ok_read c.read.result _ (verdict (1610678273 ∷ 1610612739 ∷ [])) stands c.read.ensures

pub returns : goal.returns
unfolding rows_of opposites_of
returns c = let h = rw c.unwrap.ensures at c.read.ensures in record { count = h.1; rows = h.2; opposites = h.3 }
