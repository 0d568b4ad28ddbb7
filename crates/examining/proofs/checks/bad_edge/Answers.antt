use Rattle.std.proofs.Common.{◌≡◌, true, false, get_or, sym, ◌∙◌, arith, below_more}
use Rattle.std.proofs.lemmas.Bool.{and_from, and_left, and_right, not_from_true, not_from_false}
use Rattle.std.proofs.lemmas.List.{get_or-take, get_or-drop, length-take, length-drop, length-take-le}
use Rattle.points.proofs.Decided.{each_none, each_more, each_stops}
use Rattle.points.proofs.Tabled.{at-get_or}
use Rattle.examining.specs.Checks.{edge_passes, new_pair, same_pair}
use Rattle.examining.proofs.checks.bad_edge.Goals as goal

pub loop-at-preserved : goal.loop-at-preserved
unfolding edge_passes
loop-at-preserved c =
    let e : c.loop-earlier.earlier-index ≡ c.loop-at.at = grind (arith, length-take, length-drop) in
    below_more _ _ c.loop-at.invariant
    (at-get_or true _ c.args.edges.now c.loop-at.at _ c.loop-at-test.true ∙ and_from _ _ (sym c.if-not-joins_nodes.ensures) (rw e at c.loop-earlier.invariant))

pub loop-earlier-init : goal.loop-earlier-init
unfolding new_pair
loop-earlier-init c = each_none _

pub loop-earlier-preserved : goal.loop-earlier-preserved
unfolding new_pair
loop-earlier-preserved c =
    let long = length-take-le c.loop-at.at c.args.edges.now (omega arith) in
    let same : false ≡ same_pair (get_or c.args.edges.now c.loop-earlier.earlier-index (record { from = 0; to = 0 })) (get_or c.args.edges.now c.loop-at.at (record { from = 0; to = 0 })) = grind (arith, long, get_or-take, get_or-drop, c.if-eq.ensures) in
    each_more _ _ c.loop-earlier.invariant (at-get_or true _ c.args.edges.now c.loop-earlier.earlier-index _ (omega (arith, long)) ∙ not_from_false _ (sym same))

pub returns-then-not-joins_nodes : goal.returns-then-not-joins_nodes
unfolding edge_passes
returns-then-not-joins_nodes c = (
  c.loop-at-test.true,
  at-get_or true _ c.args.edges.now c.loop-at.at _ c.loop-at-test.true ∙ and_left _ _ (sym c.if-not-joins_nodes.ensures),
  c.loop-at.invariant,
)

pub returns-then-eq : goal.returns-then-eq
unfolding edge_passes new_pair
returns-then-eq c =
    let long = length-take-le c.loop-at.at c.args.edges.now (omega arith) in
    let same : true ≡ same_pair (get_or c.args.edges.now c.loop-earlier.earlier-index (record { from = 0; to = 0 })) (get_or c.args.edges.now c.loop-at.at (record { from = 0; to = 0 })) = grind (arith, long, get_or-take, get_or-drop, c.if-eq.ensures) in (
      c.loop-at-test.true,
      at-get_or true _ c.args.edges.now c.loop-at.at _ c.loop-at-test.true
          ∙ and_right _ _
          (sym
          (each_stops c.loop-at.at _ c.loop-earlier.earlier-index (omega (arith, long))
          (at-get_or true _ c.args.edges.now c.loop-earlier.earlier-index _ (omega (arith, long)) ∙ not_from_true _ (sym same)))),
      c.loop-at.invariant,
    )
