-- The kernel calls by their numbers.
use Rattle.std.specs.Prelude.{◌==◌, ℕ, if◌then◌else◌, Option, Some, None}

-- Give a block, free one, hand one to another module, post a short message, post a block, take the block that came,
-- start a timer, stop one, say a byte, tell the clock, send bytes, tell the module's own id.
pub data Service : Type 0 where
  Malloc : Service
  Free : Service
  ChangeOwn : Service
  PostShort : Service
  PostLong : Service
  Take : Service
  TimerStart : Service
  TimerStop : Service
  Say : Service
  Clock : Service
  Send : Service
  MyId : Service

-- by the call's number
abbrev pub service_of : ℕ → Option Service
service_of n =
    if n == 0 then Some Malloc
    else (if n == 1 then Some Free
    else (if n == 2 then Some ChangeOwn
    else (if n == 3 then Some PostShort
    else (if n == 4 then Some PostLong
    else (if n == 5 then Some Take
    else (if n == 6 then Some TimerStart
    else (if n == 7 then Some TimerStop
    else (if n == 8 then Some Say
    else (if n == 9 then Some Clock else (if n == 10 then Some Send else (if n == 11 then Some MyId else None)))))))))))
