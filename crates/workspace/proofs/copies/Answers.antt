use Rattle.std.proofs.Common.{rules, ◌≡◌, ℕ, ◌+◌, zero, suc, ◌∷◌, map, replicate, refl, ap, arith, ◌∙◌}
use Rattle.std.specs.List.{range_with_len}
use Rattle.std.proofs.lemmas.Iterator.{YieldsList-from_range, YieldsList-from_map, items_from_collect}
use Rattle.std.proofs.lemmas.Result.{IfOk-weaker}
use Rattle.workspace.proofs.copies.Goals as goal

-- the same value for each number of a range
map-same : {X : Type 0} (x : X) → (n a : ℕ) → map (λ (_ : ℕ). x) (range_with_len a n) ≡ replicate n x
map-same x zero a = refl
map-same x (suc n) a = ap (λ t. x ∷ t) (map-same x n (a + 1))

pub returns : goal.returns
returns g c =
    IfOk-weaker c.collect.result _ _ (λ v e. e ∙ map-same c.args.x c.args.n 0)
    (items_from_collect c.collect.result c.collect.ensures.ran
    (YieldsList-from_map _ (λ _. c.args.x) (YieldsList-from_range 0 c.args.n c.args.n c.map.ensures.source (omega arith)) c.map.ensures.closure (λ x r q k. search rules)))
