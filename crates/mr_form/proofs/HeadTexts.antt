-- The text of a head, both ways.
use Rattle.std.proofs.Common.{◌≡◌, ℕ, ◌≤◌, Bool, true, false, cond, nat_le, List, [], ◌∷◌, ◌++◌, Option, Some, None, refl, sym, ap, subst, ◌∙◌, arith, eqb, codes, decimal, append_assoc}
use Rattle.std.specs.List.{join_with_byte}
use Rattle.std.specs.Str.{bytes_eq}
use Rattle.std.proofs.lemmas.Bool.{leb-true}
use Rattle.std.proofs.lemmas.List.Splits.{slice_split_at, join_with_byte-slice_split}
use Rattle.std.proofs.lemmas.Slice.Eq.{bytes_eq-Decides}
use Rattle.mr_text.specs.Numbers.{number_of}
use Rattle.mr_text.proofs.NumberLaws.{decimal-number_of, number_of-decimal, is_number-decimal}
use Rattle.mr_bits.specs.Shapes.{IsShapeNumber}
use Rattle.mr_form.specs.declared.heads.Version.{Version}
use Rattle.mr_form.specs.declared.heads.Version.TheVariants.{One, Two}
use Rattle.mr_form.specs.declared.heads.Heading.{Heading}
use Rattle.mr_form.specs.MatrixText.{ended, words, version_text, head_text, at_least_one, size_of, version_of, heading, head_words, head_of}
use Rattle.mr_form.proofs.HeadLaws.{no_byte, number_parts, size_of-some}

-- ---- from a line to what it names

-- what a word is that spells a size
pub record IsSize (word : List ℕ) (n : ℕ) : Type 0 where
  pub number : IsShapeNumber n
  pub spelled : word ≡ decimal n

size-is : (word : List ℕ) (n : ℕ) → size_of word ≡ Some n → IsSize word n
unfolding size_of
size-is word n e = go (number_of word) refl e
  where
    one : (m : ℕ) (t : Bool) → nat_le 1 m ≡ t → cond t (Some m) None ≡ Some n → (m ≡ n) × (1 ≤ m)
    one m true some is = (cc, leb-true _ _ some)
    one m false some is = cc

    go : (o : Option ℕ) → number_of word ≡ o → at_least_one o ≡ Some n → IsSize word n
    go None h is = cc
    go (Some m) h is =
        let p = one m (nat_le 1 m) refl is in
        let q = decimal-number_of word m h in
        subst (IsSize word) p.0 (record { number = record { some = p.1; few = omega (arith, q.1) }; spelled = sym q.0 })

-- the version that a word names
version-is : (word : List ℕ) (version : Version) → version_of word ≡ Some version → word ≡ version_text version
version-is word version e = go (bytes_eq word (codes "1")) refl (bytes_eq word (codes "2")) refl e
  where
    go : (s : Bool) → bytes_eq word (codes "1") ≡ s → (t : Bool) → bytes_eq word (codes "2") ≡ t
        → cond s (Some One) (cond t (Some Two) None) ≡ Some version → word ≡ version_text version
    go true is_one t u h = let same : ◌≡◌ {A = Version} One version = cc in
        subst (λ (v : Version). word ≡ version_text v) same ((bytes_eq-Decides word (codes "1")).0 is_one)
    go false s true is_two h = let same : ◌≡◌ {A = Version} Two version = cc in
        subst (λ (v : Version). word ≡ version_text v) same ((bytes_eq-Decides word (codes "2")).0 is_two)
    go false s false u h = cc

-- a version and three sizes where there are all
record IsHeading (version : Option Version) (n w k : Option ℕ) (head : Heading) : Type 0 where
  pub version_is : version ≡ Some head.version
  pub n_is : n ≡ Some head.n
  pub w_is : w ≡ Some head.w
  pub k_is : k ≡ Some head.k

heading-is : (version : Option Version) (n w k : Option ℕ) (head : Heading) → heading version n w k ≡ Some head → IsHeading version n w k head
heading-is (Some version) (Some n) (Some w) (Some k) head e = record { version_is = cc; n_is = cc; w_is = cc; k_is = cc }
heading-is (Some version) (Some n) (Some w) None head e = cc
heading-is (Some version) (Some n) None k head e = cc
heading-is (Some version) None w k head e = cc
heading-is None n w k head e = cc

-- what a line is that names this heading
pub record IsHead (line : List ℕ) (head : Heading) : Type 0 where
  pub n : IsShapeNumber head.n
  pub w : IsShapeNumber head.w
  pub k : IsShapeNumber head.k
  pub spelled : line ≡ head_text head.version head.n head.w head.k

tested : {X : Type 0} (t : Bool) (o : Option X) (x : X) → cond t o None ≡ Some x → (t ≡ true) × (o ≡ Some x)
tested true o x e = (refl, e)
tested false o x e = cc

words-head : (line : List ℕ) (head : Heading) (those : List (List ℕ)) → words line ≡ those → head_words those ≡ Some head → IsHead line head
unfolding head_text
words-head line head (name ∷ version ∷ n ∷ w ∷ k ∷ []) e h =
    let t = tested _ _ _ h in
    let q = heading-is (version_of version) (size_of n) (size_of w) (size_of k) head t.1 in
    let v_is = version-is version head.version q.version_is in
    let n_is = size-is n head.n q.n_is in
    let w_is = size-is w head.w q.w_is in
    let k_is = size-is k head.k q.k_is in
    record {
      n = n_is.number;
      w = w_is.number;
      k = k_is.number;
      spelled = sym (join_with_byte-slice_split 32 line) ∙ ap (join_with_byte 32) e
          ∙ (λ i. join_with_byte 32 ((bytes_eq-Decides name (codes "matrix")).0 t.0 i ∷ v_is i ∷ n_is.spelled i ∷ w_is.spelled i ∷ k_is.spelled i ∷ []));
    }
words-head line head _ e h = cc

pub head-is : (line : List ℕ) (head : Heading) → head_of line ≡ Some head → IsHead line head
unfolding head_of
head-is line head e = words-head line head (words line) refl e

-- ---- from a heading to its line

-- a size reads as itself
size-decimal : (n : ℕ) → IsShapeNumber n → size_of (decimal n) ≡ Some n
size-decimal n h = sym (size_of-some (decimal n) n (number_of-decimal n (omega (arith, h.few))) h.some)

word-parts : (n : ℕ) (rest : List ℕ) → IsShapeNumber n → words (decimal n ++ 32 ∷ rest) ≡ decimal n ∷ words rest
word-parts n rest h = slice_split_at (λ b. eqb b 32) (decimal n) 32 rest (no_byte 32 refl (decimal n) (is_number-decimal n (omega (arith, h.few)))) refl

last-parts : (n : ℕ) → IsShapeNumber n → words (decimal n) ≡ decimal n ∷ []
last-parts n h = number_parts 32 refl (decimal n) (is_number-decimal n (omega (arith, h.few)))

module _ (n w k : ℕ) (hn : IsShapeNumber n) (hw : IsShapeNumber w) (hk : IsShapeNumber k) where
  sizes-parts : words (decimal n ++ 32 ∷ (decimal w ++ 32 ∷ decimal k)) ≡ decimal n ∷ decimal w ∷ decimal k ∷ []
  sizes-parts = word-parts n (decimal w ++ 32 ∷ decimal k) hn ∙ ap (λ l. decimal n ∷ l) (word-parts w (decimal k) hw ∙ ap (λ l. decimal w ∷ l) (last-parts k hk))

  head-parts : (version : Version) → words (head_text version n w k) ≡ codes "matrix" ∷ version_text version ∷ decimal n ∷ decimal w ∷ decimal k ∷ []
  unfolding head_text
  head-parts One = ap (λ l. codes "matrix" ∷ codes "1" ∷ l) sizes-parts
  head-parts Two = ap (λ l. codes "matrix" ∷ codes "2" ∷ l) sizes-parts

  version-read : (version : Version) → version_of (version_text version) ≡ Some version
  version-read One = refl
  version-read Two = refl

  -- the text of a head names its heading
  pub head_of-text : (version : Version) → head_of (head_text version n w k) ≡ Some (record { version = version; n = n; w = w; k = k })
  unfolding head_of
  head_of-text version =
      ap head_words (head-parts version) ∙ (λ i. heading (version-read version i) (size-decimal n hn i) (size-decimal w hw i) (size-decimal k hk i))

-- the pieces in which a head is put
pub head-pieces : (version : Version) (n w k : ℕ)
    → codes "matrix " ++ (version_text version ++ (codes " " ++ (decimal n ++ (codes " " ++ (decimal w ++ (codes " " ++ (decimal k ++ (codes "\n" ++ []))))))))
    ≡ ended (head_text version n w k)
unfolding head_text
head-pieces One n w k = sym (
    ap (λ l. codes "matrix 1 " ++ l) (append_assoc (decimal n) (32 ∷ (decimal w ++ 32 ∷ decimal k)) (10 ∷ [])
    ∙ ap (λ l. decimal n ++ 32 ∷ l) (append_assoc (decimal w) (32 ∷ decimal k) (10 ∷ []))))
head-pieces Two n w k = sym (
    ap (λ l. codes "matrix 2 " ++ l) (append_assoc (decimal n) (32 ∷ (decimal w ++ 32 ∷ decimal k)) (10 ∷ [])
    ∙ ap (λ l. decimal n ++ 32 ∷ l) (append_assoc (decimal w) (32 ∷ decimal k) (10 ∷ []))))
