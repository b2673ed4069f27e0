-- What follows from the rule.
use Rattle.std.proofs.Common.{◌≡◌, ℕ, zero, suc, ◌+◌, ◌<◌, ◌⊎◌, inl, inr, List, Some, arith}
use Rattle.std.specs.Prelude.{Contains}
use Rattle.mr_counts.specs.Numbers.{times}
use Rattle.mr_counts.proofs.NumberLaws.{times-Contains, Contains-times}
use Rattle.mr_board.specs.Terms.{BoardTerms}
use Rattle.mr_board.specs.Rule.{IsKept, opens}
use Rattle.mr_board.specs.Laws.{DoneAreSeen, AreSettled}
use Rattle.mr_board.specs.declared.view.PassView.{PassView}
use Rattle.mr_board.proofs.Numbers.{zero_of, opens-claimed}

module _ (terms : BoardTerms) (words : List ℕ) (views : List PassView) (k : IsKept terms words views) where
  pub done-are-seen : DoneAreSeen terms words views
  done-are-seen = record {
    right = k.done;
    seen = λ t id v low done here drew.
        let f = k.each_fits id v here in
        let none_given : times t v.gave ≡ 0 = zero_of (times t v.gave) (λ h. absurd (omega (arith, (f.gave t h).undone, done))) in
        let not_open : opens t v.claimed ≡ 0 =
        zero_of (opens t v.claimed) (λ h. absurd (omega (arith, (f.works t (opens-claimed t v.claimed h)).undone, done))) in
        times-Contains t v.seen (omega (arith, f.settled t low (Contains-times t v.draws drew), none_given, not_open));
  }

  pub are-settled : AreSettled terms words views
  are-settled = record {
    drawn = λ t id v low here drew.
        which t v (times t v.seen) (times t v.gave) (times-Contains t v.seen) (times-Contains t v.gave)
        ((k.each_fits id v here).settled t low (Contains-times t v.draws drew));
    gave = λ t id v here gave.
        let g = (k.each_fits id v here).gave t (Contains-times t v.gave gave) in (times-Contains t v.draws g.drew, g.undone);
  }
    where
      which : (t : ℕ) (v : PassView) (a b : ℕ) → (0 < a → Contains v.seen t) → (0 < b → Contains v.gave t) → 0 < a + b + opens t v.claimed
          → Contains v.seen t ⊎ (Contains v.gave t ⊎ (v.claimed ≡ Some t))
      which t v (suc a) b seen gave h = inl (seen (omega arith))
      which t v zero (suc b) seen gave h = inr (inl (gave (omega arith)))
      which t v zero zero seen gave h = inr (inr (opens-claimed t v.claimed (omega (arith, h))))
