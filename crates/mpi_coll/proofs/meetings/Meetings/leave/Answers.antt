use Rattle.std.proofs.Common.{◌≡◌, ◌<◌, List, Some, slice_get, slice_set, length, ◌∙◌, sym, subst, ap}
use Rattle.mpi_coll.specs.Rooms.{Tables, begun, departed, IsWhole}
use Rattle.mpi_coll.specs.Kept.{room_at}
use Rattle.mpi_coll.proofs.Absent.{due-there}
use Rattle.mpi_coll.proofs.Coming.{changed-here, changed-others}
use Rattle.mpi_coll.proofs.Together.{tells-gotten, all-leave}
use Rattle.std.proofs.lemmas.List.{get_or_read}
use Rattle.mpi_coll.proofs.meetings.Meetings.leave.Goals as goal

pub returns-clause-gets : goal.returns-clause-gets
returns-clause-gets c = λ comms arrivals task a all there latest.
    let rooms = c.self.inside.rooms.items in
    let is : rooms ≡ c.args.self.now = c.self.view_is in
    let in_it : c.args.comm < length rooms = subst (λ (rs : List Tables). c.args.comm < length rs) (sym is) (due-there c.args.self.now c.args.comm c.args.rank c.requires) in
    let room : c.index_mut-room.result.now ≡ room_at c.args.self.now c.args.comm =
    get_or_read rooms c.args.comm c.index_mut-room.result.now in_it c.index_mut-room.ensures.value (begun 0) ∙ ap (λ (rs : List Tables). room_at rs c.args.comm) is in
    tells-gotten c.args.self.now comms arrivals all c.args.comm (subst IsWhole room c.leave.ensures.whole) c.args.rank task a c.leave.result c.requires
    (subst (λ (t : Tables). slice_get t.results c.args.rank ≡ Some c.leave.result) room c.leave.ensures.gets) there latest

pub returns-clause-after : goal.returns-clause-after
returns-clause-after c = λ comms arrivals all.
    let rooms = c.self.inside.rooms.items in
    let is : rooms ≡ c.args.self.now = c.self.view_is in
    let in_it : c.args.comm < length rooms = subst (λ (rs : List Tables). c.args.comm < length rs) (sym is) (due-there c.args.self.now c.args.comm c.args.rank c.requires) in
    let room : c.index_mut-room.result.now ≡ room_at c.args.self.now c.args.comm =
    get_or_read rooms c.args.comm c.index_mut-room.result.now in_it c.index_mut-room.ensures.value (begun 0) ∙ ap (λ (rs : List Tables). room_at rs c.args.comm) is in
    all-leave c.args.self.now comms arrivals all c.args.comm (subst IsWhole room c.leave.ensures.whole) (slice_set rooms c.args.comm c.leave.new.self) c.args.rank c.requires
    (changed-here rooms c.args.comm c.leave.new.self in_it ∙ (c.leave.ensures.after ∙ ap (λ (t : Tables). departed t c.args.rank) room))
    (changed-others c.args.self.now rooms c.args.comm c.leave.new.self (λ other nay. ap (λ (rs : List Tables). room_at rs other) is))
