-- The lines of a drill, as they are put.
use Rattle.std.proofs.Common.{◌≡◌, ◌∙◌, List, ℕ, [], ◌∷◌, ◌++◌, Result, append_assoc, refl, subst, sym}
use Rattle.std.proofs.lemmas.List.{append-nil}
use Rattle.std.specs.Prelude.{Option, codes, decimal}
use Rattle.mr_io.specs.Taking.{Held, Puts}
use Rattle.mr_steps.specs.Faults.{joined}
use Rattle.mr_drill_run.specs.Summaries.{digest_text, line, summary_text}
use Rattle.mr_drill_run.specs.declared.summaries.Summary.{Summary}

-- seven lines are their names and values, one after another
lines-of : (n1 a n2 b n3 c n4 d n5 e n6 f n7 g nl : List ℕ) → joined (joined (n1 ∷ a ∷ nl ∷ []) ∷ joined (n2 ∷ b ∷ nl ∷ []) ∷ joined (n3 ∷ c ∷ nl ∷ []) ∷ joined (n4 ∷ d ∷ nl ∷ []) ∷ joined (n5 ∷ e ∷ nl ∷ []) ∷ joined (n6 ∷ f ∷ nl ∷ []) ∷ joined (n7 ∷ g ∷ nl ∷ []) ∷ [])
    ≡ joined (n1 ∷ a ∷ (nl ++ n2) ∷ b ∷ (nl ++ n3) ∷ c ∷ (nl ++ n4) ∷ d ∷ (nl ++ n5) ∷ e ∷ (nl ++ n6) ∷ f ∷ (nl ++ n7) ∷ g ∷ nl ∷ [])
lines-of n1 a n2 b n3 c n4 d n5 e n6 f n7 g nl = simp (append_assoc, append-nil)

-- the pieces that are put
abbrev pub pieces : List ℕ → List ℕ → List ℕ → List ℕ → List ℕ → List ℕ → List ℕ → List ℕ
pieces a b c d e f g = joined (codes "drill " ∷ a ∷ codes "\nlost " ∷ b ∷ codes "\nleast cost " ∷ c ∷ codes "\nstripes " ∷ d ∷ codes "\nreplies " ∷ e
    ∷ codes "\nimage " ∷ f ∷ codes "\nreply " ∷ g ∷ codes "\n" ∷ [])

lines-are : (a b c d e f g : List ℕ) → joined (line (codes "drill ") a ∷ line (codes "lost ") b ∷ line (codes "least cost ") c ∷ line (codes "stripes ") d
    ∷ line (codes "replies ") e ∷ line (codes "image ") f ∷ line (codes "reply ") g ∷ []) ≡ pieces a b c d e f g
lines-are a b c d e f g = lines-of (codes "drill ") a (codes "lost ") b (codes "least cost ") c (codes "stripes ") d (codes "replies ") e (codes "image ") f (codes "reply ") g (codes "\n")

-- what is put is the text of the summary
pub summary-puts : {T E : Type 0} (old new : Option Held) (result : Result T E) (s : Summary) (a b c d e f g : List ℕ) → a ≡ decimal s.number → b ≡ decimal s.lost → c ≡ decimal s.cost
    → d ≡ decimal 64 → e ≡ decimal 64 → f ≡ digest_text s.image → g ≡ digest_text s.replies → Puts old new result (pieces a b c d e f g) → Puts old new result (summary_text s)
unfolding summary_text
summary-puts old new result s a b c d e f g a_is b_is c_is d_is e_is f_is g_is h =
    subst (λ bytes. Puts old new result bytes)
    ((λ j. pieces (a_is j) (b_is j) (c_is j) (d_is j) (e_is j) (f_is j) (g_is j))
    ∙ sym (lines-are (decimal s.number) (decimal s.lost) (decimal s.cost) (decimal 64) (decimal 64) (digest_text s.image) (digest_text s.replies)))
    h
