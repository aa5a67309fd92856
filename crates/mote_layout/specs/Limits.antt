-- How much of each thing there may be at most, and the budgets that hold where none is given.
use Rattle.std.specs.Prelude.{ℕ}

-- What a module has: functions that it provides and functions that it subscribes to.
abbrev pub provided_limit : ℕ
provided_limit = 16

abbrev pub subscribed_limit : ℕ
subscribed_limit = 16

-- bytes of a payload that comes by radio or that is sent
abbrev pub payload_limit : ℕ
payload_limit = 96

-- What a run is given: bytes and events of the script, bytes of an image, and how many images.
abbrev pub script_limit : ℕ
script_limit = 1048576

abbrev pub event_limit : ℕ
event_limit = 65536

abbrev pub image_limit : ℕ
image_limit = 65536

abbrev pub images_limit : ℕ
images_limit = 64

-- The budget of a run in units, and the watchdog's bound on the units of one handler.
abbrev pub unit_limit : ℕ
unit_limit = 1000000000

abbrev pub default_units : ℕ
default_units = 1000000

abbrev pub handler_limit : ℕ
handler_limit = 1000000

abbrev pub default_handler_units : ℕ
default_handler_units = 10000

-- What a run writes: trace lines of a turn.
abbrev pub turn_lines : ℕ
turn_lines = 512
