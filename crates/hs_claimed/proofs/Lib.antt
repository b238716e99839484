mod Groups
mod Steps
mod Law
mod Told
mod Round
