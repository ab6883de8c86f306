use Rattle.std.proofs.Common.{◌≡◌, ℕ, ◌+◌, ◌<◌, List, [], ◌∷◌, ◌++◌, length, map, take, drop, get_or, Err, sym, ap, ◌∙◌, subst, take-append-drop, append-nil, Bor, take_all}
use Rattle.std.specs.List.{flat_map}
use Rattle.std.proofs.lemmas.List.{take_more}
use Rattle.std.proofs.lemmas.List.Concat.{flat_map-append}
use Rattle.std.proofs.lemmas.Result.{err_from_is_err_and}
use Rattle.sk_model.specs.Lines.{lines_of, open_lines_of}
use Rattle.sk_base_calls.specs.declared.tests.lines.Stop.{Stop}
use Rattle.sk_lines.specs.Cutter.{Follows, IsLongAfter}
use Rattle.sk_lines.proofs.Steps.{long_after_stays}
use Rattle.sk_base_calls.proofs.tests.lines.lines_of_pieces.Goals as goal

-- the text of pieces
abbrev text_of : List (Bor (List ℕ)) → List ℕ
text_of pieces = flat_map (λ piece. piece.now) pieces

text_of_more : (pieces : List (Bor (List ℕ))) (i : ℕ) (d : Bor (List ℕ)) → i < length pieces → text_of (take (i + 1) pieces) ≡ text_of (take i pieces) ++ (get_or pieces i d).now
text_of_more pieces i d within =
    let f = λ (piece : Bor (List ℕ)). piece.now in
    ap (flat_map f) (take_more pieces i d within) ∙ flat_map-append f (take i pieces) (get_or pieces i d ∷ [])
    ∙ ap (λ (l : List ℕ). text_of (take i pieces) ++ l) (append-nil (get_or pieces i d).now)

text_of_parts : (pieces : List (Bor (List ℕ))) (i : ℕ) → text_of (take i pieces) ++ text_of (drop i pieces) ≡ text_of pieces
text_of_parts pieces i =
    let f = λ (piece : Bor (List ℕ)). piece.now in
    sym (flat_map-append f (take i pieces) (drop i pieces)) ∙ ap (flat_map f) (take-append-drop i pieces)

pub returns-in_err-take_lines-clause-long : goal.returns-in_err-take_lines-clause-long
returns-in_err-take_lines-clause-long c =
    let pieces = c.args.pieces.now in
    let i = c.pieces.piece-index in
    let p = err_from_is_err_and c.from_residual-in_err-take_lines.result c.from_residual-in_err-take_lines.ensures.1 in
    λ n is.
    let same : p.0 ≡ Stop.Long n = cc in
    let was : c.take_lines.result ≡ Err (Stop.Long n) = c.in_err-take_lines.was ∙ ap (λ (stop : Stop). Err stop) (sym p.2 ∙ same) in
    let text : List ℕ = text_of (take (i + 1) pieces) in
    let given : List (List ℕ) = map (λ line. line.items) c.pieces.all.items in
    let fed : Follows c.feed.new.self given text =
    subst (Follows c.feed.new.self given) (sym (text_of_more pieces i _ c.pieces-test.true)) (c.feed.ensures.follows given _ c.pieces.invariant.follows) in
    let long = c.take_lines.ensures.long n was text fed in
    let here : IsLongAfter c.args.limit n long.0 (open_lines_of text) =
    subst (λ (limit : ℕ). IsLongAfter limit n long.0 (open_lines_of text)) (c.feed.ensures.limit ∙ c.pieces.invariant.limit) long.1 in
    let there = long_after_stays c.args.limit n long.0 text (text_of (drop (i + 1) pieces)) here in
    (long.0, subst (λ (whole : List ℕ). IsLongAfter c.args.limit n long.0 (lines_of whole)) (text_of_parts pieces (i + 1)) there)

pub returns-in_err-take_last-clause-long : goal.returns-in_err-take_last-clause-long
returns-in_err-take_last-clause-long c =
    let pieces = c.args.pieces.now in
    let i = c.pieces.piece-index in
    let p = err_from_is_err_and c.from_residual-in_err-take_last.result c.from_residual-in_err-take_last.ensures.1 in
    λ n is.
    let same : p.0 ≡ Stop.Long n = cc in
    let was : c.take_last.result ≡ Err (Stop.Long n) = c.in_err-take_last.was ∙ ap (λ (stop : Stop). Err stop) (sym p.2 ∙ same) in
    let text : List ℕ = text_of (take i pieces) in
    let long = c.take_last.ensures.long n was text c.pieces.invariant.follows in
    let here : IsLongAfter c.args.limit n long.0 (lines_of text) =
    subst (λ (limit : ℕ). IsLongAfter limit n long.0 (lines_of text)) c.pieces.invariant.limit long.1 in
    (long.0, subst (λ (l : List (Bor (List ℕ))). IsLongAfter c.args.limit n long.0 (lines_of (text_of l))) (take_all i pieces c.pieces-test.false) here)

pub pieces-preserved : goal.pieces-preserved
pieces-preserved c =
    let given : List (List ℕ) = map (λ line. line.items) c.pieces.all.items in
    let fed = c.feed.ensures.follows given _ c.pieces.invariant.follows in
    record {
      follows = subst (Follows c.take_lines.new.lines _) (sym (text_of_more c.args.pieces.now c.pieces.piece-index _ c.pieces-test.true)) (c.in_ok-take_lines.ensures.follows _ fed);
      hungry = c.in_ok-take_lines.ensures.hungry;
      not_ended = c.take_lines.ensures.ended;
      limit = c.take_lines.ensures.limit ∙ c.feed.ensures.limit ∙ c.pieces.invariant.limit;
    }
