-- The specs of `valves`.
pub mod Valve
