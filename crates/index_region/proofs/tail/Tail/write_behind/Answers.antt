use Rattle.{std.proofs.Common.{◌≡◌, ℕ, length, sym, subst}, arrays_core.{specs.Growth.{HasRoom, IsRoomFor}, specs.declared.item.ItemType.{ItemType}}}
use Rattle.index_region.{specs.NewItems.{items_of}, specs.Tails.{TailValue, FitsTail, IsRoomBehind}, specs.declared.new_items.NewItems.{NewItems}, proofs.Grown.{room_for}, proofs.tail.Tail.write_behind.Goals.{After-brought-room}}
use Rattle.index_region.proofs.tail.Tail.write_behind.Goals as goal

-- the memory of the tail suffices for the items
room : (c : After-brought-room) → IsRoomFor c.brought-room.result c.args.array.now (length (items_of c.self.inside.items))
room c =
    let t = c.self.inside in
    let r = c.brought-room.result in
    let fits = subst (λ (v : TailValue). FitsTail c.args.array.now v) (sym c.self.view_is) c.requires in
    let brought = subst (λ (type : ItemType). (held items : ℕ) → IsRoomBehind type held items t.room → (r.item_type ≡ type) × HasRoom held items r.places) c.item_type.ensures.is c.brought-room.ensures in
    room_for c.args.array.now _ t.room r c.shape-is_array.ensures.sound fits c.self.invariant.behind brought

pub grow_by_one-requires-clause-room : goal.grow_by_one-requires-clause-room
grow_by_one-requires-clause-room c =
    subst (λ (items : NewItems). IsRoomFor c.brought-room.result c.args.array.now (length (items_of items))) c.in-One.is (room (goal.at.grow_by_one-requires-clause-room c).After-brought-room)

pub grow-requires-clause-room : goal.grow-requires-clause-room
grow-requires-clause-room c =
    subst (λ (items : NewItems). IsRoomFor c.brought-room.result c.args.array.now (length (items_of items))) c.in-Many.is (room (goal.at.grow-requires-clause-room c).After-brought-room)
