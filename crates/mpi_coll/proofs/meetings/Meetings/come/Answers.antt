use Rattle.std.proofs.Common.{◌≡◌, ◌≢◌, ℕ, ◌<◌, List, slice_set, length, ◌∙◌, sym, subst, ap, arith}
use Rattle.mpc_values.specs.declared.limits.TheConstants.{MAX_GIVEN}
use Rattle.mpi_comm.specs.Seen.{members_at}
use Rattle.mpi_coll.specs.Rooms.{Tables}
use Rattle.mpi_coll.specs.Kept.{room_at, opened_as}
use Rattle.mpi_coll.specs.Together.{Stays}
use Rattle.mpi_coll.proofs.Coming.{on_err, room-is, room-made, room-size, changed-here, changed-others, stays-same, stays-opened, arrives-next}
use Rattle.mpi_coll.proofs.meetings.Meetings.come.Goals as goal

pub returns-in_err-open-clause-err : goal.returns-in_err-open-clause-err
returns-in_err-open-clause-err c =
    on_err (Stays c.args.self.now c.open.new.self c.args.comms.now) c.from_residual.result
    (stays-same c.args.self.now c.open.new.self c.args.comm c.args.comms.now c.in_err-open.ensures.err c.in_err-open.ensures.others)

pub arrive-requires-clause-member : goal.arrive-requires-clause-member
arrive-requires-clause-member c =
    let n = length (members_at c.args.comms.now c.args.comm) in
    let is : c.self.inside.rooms.items ≡ c.open.new.self = c.self.view_is in
    let in_it : c.args.comm < length c.self.inside.rooms.items = subst (λ (rs : List Tables). c.args.comm < length rs) (sym is) c.in_ok-open.ensures.there in
    let here : room_at c.self.inside.rooms.items c.args.comm ≡ opened_as (room_at c.args.self.now c.args.comm) n =
    ap (λ (rs : List Tables). room_at rs c.args.comm) is ∙ (c.in_ok-open.ensures.here ∙ ap (opened_as (room_at c.args.self.now c.args.comm)) c.size_of-members.ensures) in
    let size = room-size c.args.self.now c.self.inside.rooms.items c.args.comm n c.index_mut-room.result.now in_it c.index_mut-room.ensures.value here c.requires.same_members in
    omega (arith, size, c.requires.member)

pub arrive-requires-clause-few : goal.arrive-requires-clause-few
arrive-requires-clause-few c =
    let is : c.self.inside.rooms.items ≡ c.open.new.self = c.self.view_is in
    let in_it : c.args.comm < length c.self.inside.rooms.items = subst (λ (rs : List Tables). c.args.comm < length rs) (sym is) c.in_ok-open.ensures.there in
    let here : room_at c.self.inside.rooms.items c.args.comm ≡ opened_as (room_at c.args.self.now c.args.comm) c.size_of-members.result =
    ap (λ (rs : List Tables). room_at rs c.args.comm) is ∙ c.in_ok-open.ensures.here in
    subst (λ n. n < MAX_GIVEN)
    (sym (room-made c.args.self.now c.self.inside.rooms.items c.args.comm c.size_of-members.result c.index_mut-room.result.now in_it c.index_mut-room.ensures.value here c.args.rank)) c.requires.few

pub arrive-requires-clause-size : goal.arrive-requires-clause-size
arrive-requires-clause-size c =
    let n = length (members_at c.args.comms.now c.args.comm) in
    let is : c.self.inside.rooms.items ≡ c.open.new.self = c.self.view_is in
    let in_it : c.args.comm < length c.self.inside.rooms.items = subst (λ (rs : List Tables). c.args.comm < length rs) (sym is) c.in_ok-open.ensures.there in
    let here : room_at c.self.inside.rooms.items c.args.comm ≡ opened_as (room_at c.args.self.now c.args.comm) n =
    ap (λ (rs : List Tables). room_at rs c.args.comm) is ∙ (c.in_ok-open.ensures.here ∙ ap (opened_as (room_at c.args.self.now c.args.comm)) c.size_of-members.ensures) in
    room-size c.args.self.now c.self.inside.rooms.items c.args.comm n c.index_mut-room.result.now in_it c.index_mut-room.ensures.value here c.requires.same_members

pub returns-in_err-arrive-clause-err : goal.returns-in_err-arrive-clause-err
returns-in_err-arrive-clause-err c =
    let rooms = c.self.inside.rooms.items in
    let n = length (members_at c.args.comms.now c.args.comm) in
    let is : rooms ≡ c.open.new.self = c.self.view_is in
    let in_it : c.args.comm < length rooms = subst (λ (rs : List Tables). c.args.comm < length rs) (sym is) c.in_ok-open.ensures.there in
    let here : room_at rooms c.args.comm ≡ opened_as (room_at c.args.self.now c.args.comm) n =
    ap (λ (rs : List Tables). room_at rs c.args.comm) is ∙ (c.in_ok-open.ensures.here ∙ ap (opened_as (room_at c.args.self.now c.args.comm)) c.size_of-members.ensures) in
    let others : (other : ℕ) → other ≢ c.args.comm → room_at rooms other ≡ room_at c.args.self.now other = λ other nay. ap (λ (rs : List Tables). room_at rs other) is ∙ c.in_ok-open.ensures.others other nay in
    on_err (Stays c.args.self.now (slice_set rooms c.args.comm c.arrive.new.self) c.args.comms.now) c.from_residual-in_err-arrive.result
    (stays-opened c.args.self.now (slice_set rooms c.args.comm c.arrive.new.self) c.args.comms.now c.args.comm c.args.rank c.index_mut-room.result.now
    (room-is c.args.self.now rooms c.args.comm n c.index_mut-room.result.now in_it c.index_mut-room.ensures.value here)
    c.requires.member
    (changed-others c.args.self.now rooms c.args.comm c.arrive.new.self others)
    c.arrive.new.self c.in_err-arrive.ensures.err (changed-here rooms c.args.comm c.arrive.new.self in_it))

pub returns-clause-after : goal.returns-clause-after
returns-clause-after c =
    let rooms = c.self.inside.rooms.items in
    let n = length (members_at c.args.comms.now c.args.comm) in
    let is : rooms ≡ c.open.new.self = c.self.view_is in
    let in_it : c.args.comm < length rooms = subst (λ (rs : List Tables). c.args.comm < length rs) (sym is) c.in_ok-open.ensures.there in
    let here : room_at rooms c.args.comm ≡ opened_as (room_at c.args.self.now c.args.comm) n =
    ap (λ (rs : List Tables). room_at rs c.args.comm) is ∙ (c.in_ok-open.ensures.here ∙ ap (opened_as (room_at c.args.self.now c.args.comm)) c.size_of-members.ensures) in
    let others : (other : ℕ) → other ≢ c.args.comm → room_at rooms other ≡ room_at c.args.self.now other = λ other nay. ap (λ (rs : List Tables). room_at rs other) is ∙ c.in_ok-open.ensures.others other nay in
    arrives-next c.args.self.now (slice_set rooms c.args.comm c.arrive.new.self) c.args.comms.now c.args.comm c.args.rank c.index_mut-room.result.now
    (room-is c.args.self.now rooms c.args.comm n c.index_mut-room.result.now in_it c.index_mut-room.ensures.value here)
    c.requires.member
    (changed-others c.args.self.now rooms c.args.comm c.arrive.new.self others)
    c.args.coll.now c.args.given.now c.arrive.new.comms c.in_ok-arrive.ensures.whole c.requires.agrees
    (changed-here rooms c.args.comm c.arrive.new.self in_it ∙ c.in_ok-arrive.ensures.done) c.in_ok-arrive.ensures.changes
