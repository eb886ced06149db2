-- A block goes back to a refusing allocator by what lets it go back to the allocator within: where any thread may give it
-- back there, any may here.
use Rattle.failing_alloc.specs.contracts.allocator.FailingAllocAllocator.TheImpl.{ghosts}
use Rattle.std.specs.declared.alloc.Allocator.{Ghosts}
use denote.Param.Send.{Frees}
use denote.RattleType.{RattleType}
use mir.Syntax.{Dict}

abbrev Anywhere : {D : Type 0} → Ghosts D → Type 0
Anywhere allocator = Frees allocator allocator.dealloc_token

pub frees : (W : RattleType) (within : Ghosts W.Denot) (d d' : Dict) → Anywhere within → Anywhere (ghosts W within d d')
frees W within d d' there = record { frees = λ refusing. there.frees refusing.within }
