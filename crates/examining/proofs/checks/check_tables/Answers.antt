use Rattle.std.proofs.Common.{◌≡◌, ℕ, ◌<◌, Bool, true, refl, below_more, arith}
use Rattle.std.proofs.lemmas.Result.{err_from_is_err_and}
use Rattle.points.specs.Tables.{at_place}
use Rattle.examining.proofs.checks.check_tables.Goals as goal

none : (f : ℕ → Bool) (k : ℕ) → k < 0 → f k ≡ true
none f k l = absurd (omega arith)

pub returns-in_err-require : goal.returns-in_err-require
unfolding at_place
returns-in_err-require g c =
    let p = err_from_is_err_and c.from_residual.result c.from_residual.ensures.1 in
    rw (p.1, p.2, c.in_err-require.ensures.1) (refl, (omega arith, (c.in_err-require.ensures.0), (none _)))

pub returns-in_err-require-2 : goal.returns-in_err-require-2
unfolding at_place
returns-in_err-require-2 g c =
    let p = err_from_is_err_and c.from_residual-in_err-require-2.result c.from_residual-in_err-require-2.ensures.1 in
    rw (p.1, p.2, c.in_err-require-2.ensures.1) (refl, (omega arith, (rw c.components.ensures at c.in_err-require-2.ensures.0), (below_more _ _ (none _) (c.in_ok-require.ensures))))

pub returns-in_err-require-3 : goal.returns-in_err-require-3
unfolding at_place
returns-in_err-require-3 g c =
    let p = err_from_is_err_and c.from_residual-in_err-require-3.result c.from_residual-in_err-require-3.ensures.1 in
    rw (p.1, p.2, c.in_err-require-3.ensures.1) (refl, (omega arith, (c.in_err-require-3.ensures.0), (below_more _ _ (below_more _ _ (none _) (c.in_ok-require.ensures)) (rw c.components.ensures at c.in_ok-require-2.ensures))))

pub returns-in_err-require-4 : goal.returns-in_err-require-4
unfolding at_place
returns-in_err-require-4 g c =
    let p = err_from_is_err_and c.from_residual-in_err-require-4.result c.from_residual-in_err-require-4.ensures.1 in
    rw (p.1, p.2, c.in_err-require-4.ensures.1) (refl, (omega arith, (c.in_err-require-4.ensures.0), (below_more _ _ (below_more _ _ (below_more _ _ (none _) (c.in_ok-require.ensures)) (rw c.components.ensures at c.in_ok-require-2.ensures)) (c.in_ok-require-3.ensures))))

pub returns-in_err-require-5 : goal.returns-in_err-require-5
unfolding at_place
returns-in_err-require-5 g c =
    let p = err_from_is_err_and c.from_residual-in_err-require-5.result c.from_residual-in_err-require-5.ensures.1 in
    rw (p.1, p.2, c.in_err-require-5.ensures.1) (refl, (omega arith, (c.in_err-require-5.ensures.0), (below_more _ _ (below_more _ _ (below_more _ _ (below_more _ _ (none _) (c.in_ok-require.ensures)) (rw c.components.ensures at c.in_ok-require-2.ensures)) (c.in_ok-require-3.ensures)) (c.in_ok-require-4.ensures))))

pub returns-in_err-require-6 : goal.returns-in_err-require-6
unfolding at_place
returns-in_err-require-6 g c =
    let p = err_from_is_err_and c.from_residual-in_err-require-6.result c.from_residual-in_err-require-6.ensures.1 in
    rw (p.1, p.2, c.in_err-require-6.ensures.1) (refl, (omega arith, (c.in_err-require-6.ensures.0), (below_more _ _ (below_more _ _ (below_more _ _ (below_more _ _ (below_more _ _ (none _) (c.in_ok-require.ensures)) (rw c.components.ensures at c.in_ok-require-2.ensures)) (c.in_ok-require-3.ensures)) (c.in_ok-require-4.ensures)) (c.in_ok-require-5.ensures))))

pub returns : goal.returns
unfolding at_place
returns g c = below_more _ _ (below_more _ _ (below_more _ _ (below_more _ _ (below_more _ _ (below_more _ _ (none _) (c.in_ok-require.ensures)) (rw c.components.ensures at c.in_ok-require-2.ensures)) (c.in_ok-require-3.ensures)) (c.in_ok-require-4.ensures)) (c.in_ok-require-5.ensures)) (c.in_ok-require-6.ensures)
