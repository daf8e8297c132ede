-- Document 01, "Keys" (rule 62): a key is a signed 32-bit number; the values are those of the guide, section 18.1.
use Rattle.std.specs.Prelude.{ℤ, pos, negsuc}

-- 0: done
abbrev pub done : ℤ
done = pos 0

-- -1: queue full on send or empty on fetch or pending; activating an active job; ordinary removal with an active job in the tree
abbrev pub not_complete : ℤ
not_complete = negsuc 0

-- -2: nobody is current; job named isn't live; job positions or tags used up; job outside the tree in $2
abbrev pub invalid_job : ℤ
invalid_job = negsuc 1

-- -3: no free block of that area is long enough
abbrev pub out_of_memory : ℤ
out_of_memory = negsuc 2

-- -4: fresh picture's sizes bad
abbrev pub out_of_range : ℤ
out_of_range = negsuc 3

-- -5: the table lent for a report has fewer lines than the tree has members
abbrev pub buffer_overflow : ℤ
buffer_overflow = negsuc 4

-- -6: channel not live; channel positions or tags used up
abbrev pub channel_not_open : ℤ
channel_not_open = negsuc 5

-- -7: name isn't PIPE; no such error text
abbrev pub not_found : ℤ
not_found = negsuc 6

-- -12: PIPE_ followed by anything but 1 to 5 digits worth 1 to 32,766
abbrev pub bad_name : ℤ
bad_name = negsuc 11

-- -15: any other bad parameter, unknown call, registers not 8
abbrev pub bad_parameter : ℤ
bad_parameter = negsuc 14

-- -16: picture not sound
abbrev pub not_sound : ℤ
not_sound = negsuc 15
