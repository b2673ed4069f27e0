-- The replies of one eye that serves the reads after the menders are lawful.
use Rattle.std.proofs.Common.{◌≡◌, ℕ, zero, suc, ◌+◌, ◌*◌, ◌<◌, Bool, true, false, cond, inl, List, [], ◌∷◌, take, drop, length, get_or, All, Option, Some, None, IfSome, refl, sym, ap, subst, ◌∙◌, arith}
use Rattle.std.specs.Prelude.{MatchOption, option_to_list}
use Rattle.std.proofs.lemmas.List.{drop-drop, drop_at, take_at}
use Rattle.std.proofs.lemmas.List.Elements.{All-head, All-tail}
use Rattle.mr_board.specs.Boards.{IsBoardOf}
use Rattle.mr_board.specs.declared.board.Board.{Board}
use Rattle.mr_image.specs.Heads.{file_bytes}
use Rattle.mr_image.specs.Images.{Image, image_of, mended}
use Rattle.mr_io.specs.Sights.{Sight}
use Rattle.mr_mend.specs.Readers.{ask_at}
use Rattle.mr_mend.specs.Scripts.{IsInRange}
use Rattle.mr_mend.specs.Serving.{reply_bytes}
use Rattle.mr_mend.specs.declared.asks.Ask.{Ask}
use Rattle.mr_mend.proofs.ReplyImages.{length-mended}
use Rattle.mr_plan.specs.PlanLists.{recipes_at}
use Rattle.mr_ready.specs.Orders.{OrderParts}
use Rattle.mr_ready.specs.Replying.{AreLawful}

-- a reply in a buffer of symbols
replied-at : (size : ℕ) (f : Image) (asks : List Ask) → All (λ (ask : Ask). length (f ask.stripe ask.symbol) ≡ size) asks → (j : ℕ) → j < length asks
    → take size (drop (j * size) (reply_bytes f asks)) ≡ f (ask_at asks j).stripe (ask_at asks j).symbol
replied-at size f [] long j low = absurd (omega (arith, low))
replied-at size f (ask ∷ asks) long zero low =
    ap (λ n. take size (drop n (reply_bytes f (ask ∷ asks)))) {x = 0 * size} {y = 0} (omega arith)
    ∙ take_at (f ask.stripe ask.symbol) (reply_bytes f asks) size (All-head (λ (ask : Ask). length (f ask.stripe ask.symbol) ≡ size) ask asks long)
replied-at size f (ask ∷ asks) long (suc j) low =
    ap (λ n. take size (drop n (reply_bytes f (ask ∷ asks)))) {x = suc j * size} {y = size + j * size} (omega arith)
    ∙ ap (take size) (sym (drop-drop (j * size) size (reply_bytes f (ask ∷ asks)))
    ∙ ap (drop (j * size)) (drop_at (f ask.stripe ask.symbol) (reply_bytes f asks) size (All-head (λ (ask : Ask). length (f ask.stripe ask.symbol) ≡ size) ask asks long)))
    ∙ replied-at size f asks (All-tail (λ (ask : Ask). length (f ask.stripe ask.symbol) ≡ size) ask asks long) j (omega (arith, low))

served-lawful : (order : OrderParts) (bytes replies : List ℕ) → length bytes ≡ file_bytes order.head → All (IsInRange order.head) order.asks
    → replies ≡ reply_bytes (mended order.head (recipes_at order.plans) (image_of order.head bytes)) order.asks → AreLawful order (Some bytes) replies
served-lawful order bytes replies long asks is j low =
    let f : Image = mended order.head (recipes_at order.plans) (image_of order.head bytes) in
    inl (ap (λ xs. take order.head.symbol_bytes (drop (j * order.head.symbol_bytes) xs)) is
    ∙ replied-at order.head.symbol_bytes f order.asks
    (λ k d less. length-mended order.head (recipes_at order.plans) bytes (get_or order.asks k d).stripe (get_or order.asks k d).symbol long (asks k d less).stripe (asks k d less).symbol) j low)

-- With `live` the replies stay as the readers left them. Without, one eye served them.
pub final-replies : {E : Type 0} (sight : E → Sight) (order : OrderParts) (told : Option (List ℕ)) (server : Option E) (b : Board) (before after : List ℕ) → IsBoardOf b order.head order.plans told
    → length (option_to_list server) ≡ cond order.live 0 1 → All (λ eye. (sight eye).bytes ≡ told) (option_to_list server)
    → IfSome told (λ bytes. length bytes ≡ file_bytes order.head) → All (IsInRange order.head) order.asks
    → (order.live ≡ true → AreLawful order told before)
    → MatchOption server (after ≡ before) (λ eye. (bytes : List ℕ) → IsBoardOf b order.head order.plans (Some bytes) → (sight eye).bytes ≡ Some bytes
    → after ≡ reply_bytes (mended order.head (recipes_at order.plans) (image_of order.head bytes)) order.asks)
    → AreLawful order told after
final-replies sight order told None b before after board many tells fits asks live made = subst (AreLawful order told) (sym made) (live (go order.live many))
  where
    go : (l : Bool) → ◌≡◌ {A = ℕ} 0 (cond l 0 1) → l ≡ true
    go true e = refl
    go false e = absurd (omega (arith, e))
final-replies sight order None (Some eye) b before after board many tells fits asks live made = λ j low. tt
final-replies sight order (Some bytes) (Some eye) b before after board many tells fits asks live made =
    served-lawful order bytes after fits asks (made bytes board (tells 0 eye (omega arith)))
