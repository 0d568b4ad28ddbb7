use Rattle.std.proofs.Common.{◌≡◌, ℕ, ◌/◌, ◌%◌, ◌<◌, Ok, Err, Result, ap, ◌∙◌, arith}
use Rattle.std.specs.Result.{OkIff, result_unwrap_or}
use Rattle.house.specs.Cells.{cell_count}
use Rattle.house.proofs.Places.{cell_at, component_at}
use Rattle.engine.proofs.VoidCells.{cell_found}
use Rattle.engine.proofs.voids.cell_at.Goals as goal

-- what a conversion that fits gives, whatever it would give otherwise
fits : {P E : Type 0} {x y : ℕ} (r : Result ℕ E) (d : ℕ) → P → OkIff r P x → y ≡ result_unwrap_or r d → y ≡ x
fits (Ok z) d p ok e = e ∙ ok.1
fits (Err f) d p never e = absurd (never p)

pub returns : goal.returns
returns c = λ few.
    let lt : c.args.at < cell_count c.args.sizes = omega arith in
    let at = cell_at c.args.sizes c.args.at lt in
    let comp : c.args.at / c.args.sizes.moving % c.components.result ≡ component_at c.args.sizes c.args.at = ap (λ (w : ℕ). c.args.at / c.args.sizes.moving % w) c.components.ensures in
    let small : c.args.at / c.args.sizes.moving % c.components.result < 65536 = omega (arith, at.component, comp, few.0) in
    cell_found c.args.sizes c.args.at _ lt
    (ap (λ (w : ℕ). c.args.at / c.args.sizes.moving / w) c.components-2.ensures)
    (fits c.try_from.result _ small c.try_from.ensures c.unwrap_or.ensures ∙ comp)
    (omega (arith, at.moving, few.1, c.saturating_add.ensures))
