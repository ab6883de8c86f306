use Rattle.std.proofs.Common.{◌≡◌, [], ◌∷◌, ◌++◌, None, refl}
use Rattle.std.proofs.lemmas.List.Elements.{All-same, All-push}
use Rattle.sk_compose.specs.declared.buffer.Parcel.{Parcel}
use Rattle.sk_hub.proofs.Opening.{one_longer}
use Rattle.sk_hub.proofs.opened.placeholders.Goals as goal

pub parcel-preserved : goal.parcel-preserved
parcel-preserved g c =
    let i = c.parcel.invariant in let before = c.parcel.parcels.items in
    let p : Parcel g.row.T.Denot = record { buffer = c.in_ok-buffer.buffer; told = None } in
    let more : c.push.new.self.items ≡ before ++ p ∷ [] = c.in_ok-push.ensures.items in
    let empty = λ (p : Parcel g.row.T.Denot). (p.buffer.items ≡ []) × (p.told ≡ None) in
    let room = λ (p : Parcel g.row.T.Denot). p.buffer.capacity ≡ 1 in
    record {
      count = one_longer before c.push.new.self.items p c.parcel.counter more i.count;
      empty = All-same empty c.push.new.self.items (before ++ p ∷ []) more (All-push empty before p i.empty (c.in_ok-buffer.ensures.items, refl));
      rooms = All-same room c.push.new.self.items (before ++ p ∷ []) more (All-push room before p i.rooms c.in_ok-buffer.ensures.capacity);
    }
