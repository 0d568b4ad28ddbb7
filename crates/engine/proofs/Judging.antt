-- The verdicts on all components, one after the other. Assumes nothing.
use Rattle.std.proofs.Common.{◌≡◌, ℕ, ◌+◌, ◌<◌, ◌≤◌, List, length, get_or, set, sym, ◌∙◌, subst, ⊎_elim, arith, length-set, get_or-set_other, get_or-set_same}
use Rattle.std.proofs.lemmas.Bool.{cases_eq}
use Rattle.points.specs.Points.{Points}
use Rattle.house.specs.declared.tables.House.{House}
use Rattle.house.specs.Cells.{components}
use Rattle.judge.specs.declared.verdicts.Verdicts.{Verdicts}
use Rattle.judge.specs.Judged.{Judges, AllJudged}
use Rattle.engine.specs.Ready.{Judgeable, Ready}

pub judgeable : {S : Type 0} (n : ℕ) (has : S → Points) (h : House S) (formulas : ℕ) → Ready n has h formulas → Judgeable n has h
judgeable n has h formulas ready = record { countable = ready.countable; few_components = ready.few_components }

module _ {S : Type 0} (n : ℕ) (has : S → Points) (h : House S) where
  -- the components below a limit are judged, as far as the list goes
  unfoldable pub JudgedBelow : ℕ → List Verdicts → Type 0
  JudgedBelow k vs = (c : ℕ) → c < k → c < length vs → (v : Verdicts) → v ≡ get_or vs c v → Judges n has h c v

  pub judged_none : (vs : List Verdicts) → JudgedBelow 0 vs
  unfolding JudgedBelow
  judged_none vs c lt = absurd (omega arith)

  pub judged_more : (k : ℕ) (vs : List Verdicts) (v : Verdicts) → k < length vs → Judges n has h k v → JudgedBelow k vs → JudgedBelow (k + 1) (set vs k v)
  unfolding JudgedBelow
  judged_more k vs v in' here before c lt in'' w is =
      ⊎_elim
      (λ e. let same : w ≡ v = is ∙ (rw e (get_or-set_same vs k v w in')) in subst (λ (u : ℕ). Judges n has h u w) (sym e) (subst (λ (x : Verdicts). Judges n has h k x) (sym same) here))
      (λ ne. before c (omega arith) (rw (length-set vs k v) at in'') w (is ∙ get_or-set_other vs k c v w ne))
      (cases_eq c k)

  pub judged_all : (k : ℕ) (vs : List Verdicts) → components h.sizes ≤ k → components h.sizes ≤ length vs → JudgedBelow k vs → AllJudged n has h vs
  unfolding JudgedBelow
  judged_all k vs le enough before = record { enough = enough; judges = λ c lt v is. before c (omega arith) (omega arith) v is }
