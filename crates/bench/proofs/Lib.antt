mod Pools
