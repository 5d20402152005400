mod Standings
mod Asking
mod Counting
mod Drawing
mod Ticking
mod Using
mod Hearing
mod Running
