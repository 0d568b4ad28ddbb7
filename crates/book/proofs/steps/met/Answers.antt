use Rattle.std.proofs.Common.{◌≡◌, List, [], ◌∷◌, ◌++◌, Option, ◌∙◌, rules, tests}
use Rattle.std.specs.Fn.{Called}
use Rattle.std.specs.Iterator.{FoldsItems}
use Rattle.std.proofs.lemmas.Fn.{fold_over}
use Rattle.std.proofs.lemmas.Iterator.{YieldsList, YieldsList-from_slice}
use Rattle.std.proofs.lemmas.Iterator.Consumers.{YieldsList-from_filter}
use denote.Param.Members.{Mut}
use Rattle.points.specs.Points.{Same}
use Rattle.book.specs.Steps.{presses}
use Rattle.book.proofs.Meeting.{shared, shared_none, shared_more, shared_said}
use Rattle.book.proofs.steps.met.Goals as goal

-- `fold_over`, where what ran says which steps they were
folds : {S A B F C : Type 0} {steps : S → Option A → S → Type 0} {g : Mut F (C × (A × Unit {0})) C} {f : F} {s : S} {a r : C} → FoldsItems steps g s f a r →
    (J : List B → C → Type 0) (v : A → B) {all : List B} → YieldsList steps v s all → J [] a →
    ((ts : List B) (b : C) (x : A) (d : C) (f' : F) → J ts b → Called g f (b, (x, tt)) d f' → J (ts ++ (v x ∷ [])) d × (f' ≡ f)) → J all r
folds {steps} {g} {f} {s} ran J v road start step = fold_over steps v g J f step s _ _ _ road.runs start ran

pub returns : goal.returns
returns g c p =
    let steps = c.args.steps.now in
    let size = g.S.Scale.size in
    folds c.fold.ensures.ran (λ ts b. Same (g.S.Scale.has b) (shared (λ t. g.S.Scale.has (g.T.Step.limit t)) size ts)) _
    (YieldsList-from_filter _ (presses g.T.Step.number g.T.Step.reaches c.args.f c.args.x c.args.y) (YieldsList-from_slice steps cc) c.filter.ensures.closure (λ x b q k. search (rules, tests)))
    (shared_none _ size _ c.loose.ensures)
    (λ ts b x d f' k ran. (shared_more _ size ts x.now _ _ k (search rules), search rules))
    p
    ∙ shared_said _ size g.T.Step.number g.T.Step.reaches steps c.args.f c.args.x c.args.y p
