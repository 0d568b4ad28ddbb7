use Rattle.std.proofs.Common.{◌≡◌, ◌+◌, [], ◌∷◌, ◌++◌, take, vec_items}
use Rattle.std.proofs.lemmas.List.{take_all}
use Rattle.std.proofs.lemmas.Result.{err_from_is_err_and}
use Rattle.life.proofs.Played.{far_none, far_step, far_all}
use Rattle.life.proofs.replays.replay.Goals as goal

pub loop-call-init : goal.loop-call-init
loop-call-init g c = rw c.new-answers.ensures.items (far_none _ _ _ _ _ c.args.facts.now c.args.course.now c.open.result c.open.ensures)

pub loop-call-preserved : goal.loop-call-preserved
loop-call-preserved g c =
    rw c.in_ok-push.ensures.items
    (far_step _ _ c.args.house.now _ _ c.args.calls.now c.loop-call.call-index _ _ _ _ _ _ _ _ _ c.call-item.result _
    c.loop-call-test.true c.call-item.is c.loop-call.invariant c.step-next.ensures)

pub returns-in_err-push : goal.returns-in_err-push
returns-in_err-push g c =
    let p = err_from_is_err_and c.from_residual.result c.from_residual.ensures.1 in
    rw p.1 (
      c.loop-call.call-index + 1,
      vec_items c.loop-call.answers ++ c.step-next.result.1 ∷ [],
      far_all _ _ c.args.house.now _ _ _ _ _ _ _ _ _
          (far_step _ _ c.args.house.now _ _ c.args.calls.now c.loop-call.call-index _ _ _ _ _ _ _ _ _ c.call-item.result _
          c.loop-call-test.true c.call-item.is c.loop-call.invariant c.step-next.ensures),
    )

pub returns : goal.returns
returns g c =
    let e : take c.loop-call.call-index c.args.calls.now ≡ c.args.calls.now =
    take_all c.loop-call.call-index c.args.calls.now c.loop-call-test.false in
    far_all _ _ c.args.house.now _ _ c.args.calls.now (vec_items c.loop-call.answers) _ _ _ _ _ (rw e at c.loop-call.invariant)
